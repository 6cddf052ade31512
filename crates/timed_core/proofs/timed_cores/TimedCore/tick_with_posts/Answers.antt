use Rattle.std.proofs.Common.{◌≡◌, ◌∙◌, ℕ, ◌+◌, ◌-◌, ◌++◌, ◌≤◌, length, subst, ap, arith}
use Rattle.std.proofs.lemmas.Result.{on_ok_weaker}
use Rattle.slack_base.specs.Inboxes.{CoreValue}
use Rattle.timed_core.specs.Cores.{HartValue}
use Rattle.timed_core.specs.Noting.{executes, work}
use Rattle.timed_core.specs.Outcomes.{ask_of}
use Rattle.timed_core.specs.Ticks.{applied_all, stepped, asks_of, id_at}
use Rattle.timed_core.specs.Views.{MarkedCore}
use Rattle.timed_core.proofs.Due.{due_by, IsDone, IsTicked, ticked}
use Rattle.timed_core.proofs.Noting.{one_cycle}
use Rattle.timed_core.proofs.Stretches.{IsOneStep, one_step}
use Rattle.timed_core.proofs.timed_cores.TimedCore.tick_with_posts.Goals as goal

-- how many asks the posts sent
abbrev sent_before : goal.After-send → ℕ
sent_before c = c.len.result - c.len-before.result

whole : (c : goal.After-send) → IsTicked c.args.code.now c.args.cycle c.args.self.now.value (stepped c.args.code.now (id_at c.args.cycle c.apply_due.new.hart.value (sent_before c)) c.apply_due.new.hart.value).0 c.apply_due.new.inbox c.args.out.now (c.apply_due.new.out ++ asks_of (stepped c.args.code.now (id_at c.args.cycle c.apply_due.new.hart.value (sent_before c)) c.apply_due.new.hart.value).1)
whole c =
    let code = c.args.code.now in
    let t = c.args.cycle in
    let first : CoreValue HartValue = record { inner = c.self.inside.hart.value; inbox = c.self.inside.inbox } in
    let hart = c.apply_due.new.hart.value in
    let left = c.apply_due.new.inbox in
    let sent = c.args.out.now in
    let out = c.apply_due.new.out in
    let id = id_at t hart (sent_before c) in
    let posts : IsDone code.base t first.inner first.inbox sent hart out =
    subst (λ base. IsDone base t first.inner first.inbox sent hart out) c.base.ensures (record {
      hart = c.in_ok-apply_due.ensures.hart;
      asks = c.in_ok-apply_due.ensures.asks;
    }) in
    let numbered : id ≡ id_at t hart (length out - c.len-before.result) = ap (λ n. id_at t hart (n - c.len-before.result)) c.len.ensures in
    subst (λ core. IsTicked code t core.value (stepped code id hart).0 left sent (out ++ asks_of (stepped code id hart).1)) c.self.view_is
    (ticked code t c.len-before.result first hart left sent out id c.len-before.ensures c.in_ok-apply_due.ensures.inbox posts numbered)

step : (c : goal.After-send) → IsOneStep c.args.code.now (id_at c.args.cycle c.apply_due.new.hart.value (sent_before c)) c.apply_due.new.hart.value c.stretch-stretch.new.self.value (asks_of (ask_of c.stretch-stretch.result.outcome (id_at c.args.cycle c.stretch-stretch.new.self.value (sent_before c))))
step c =
    let next : c.stretch-stretch.result.next ≡ c.args.cycle + 1 = omega (arith, c.stretch-stretch.ensures.next) in
    one_step c.args.code.now (sent_before c) c.args.cycle c.apply_due.new.hart.value c.stretch-stretch.new.self.value c.stretch-stretch.result next (c.stretch-stretch.ensures.stretch (sent_before c))

pub returns-clause-core : goal.returns-clause-core
returns-clause-core c =
    on_ok_weaker c.send.result (λ sent. ap (λ hart. record { inner = hart; inbox = c.apply_due.new.inbox }) (step c).after ∙ (whole c).after) c.send.ensures

pub returns-clause-asks : goal.returns-clause-asks
returns-clause-asks c =
    let ask : asks_of c.ask.result ≡ asks_of (ask_of c.stretch-stretch.result.outcome (id_at c.args.cycle c.stretch-stretch.new.self.value (sent_before c))) =
    ap asks_of (c.ask.ensures ∙ ap (ask_of c.stretch-stretch.result.outcome) c.id_at-id.ensures) in
    on_ok_weaker c.send.result (λ sent. sent ∙ ap (λ asks. c.apply_due.new.out ++ asks) (ask ∙ (step c).asks) ∙ (whole c).asks) c.send.ensures

-- the sets that the posts and then the instruction noted
noted : (c : goal.After-send) → length c.stretch-stretch.new.self.noted ≤ length c.args.self.now.noted + work c.args.code.now c.args.cycle c.args.self.now.value
noted c =
    let code = c.args.code.now in
    let t = c.args.cycle in
    let inside = c.self.inside in
    let hart = c.apply_due.new.hart in
    let due = due_by t inside.inbox in
    let posts = c.in_ok-apply_due.ensures.noted in
    let one = one_cycle code 0 t c.stretch-stretch.result.next hart.value c.stretch-stretch.ensures.next.0 c.stretch-stretch.ensures.next.1 in
    let same : executes hart.value ≡ executes (applied_all code.base t 0 inside.hart.value due).0 =
    ap executes (c.in_ok-apply_due.ensures.hart ∙ ap (λ base. (applied_all base t 0 inside.hart.value due).0) c.base.ensures) in
    let both : length c.stretch-stretch.new.self.noted ≤ length inside.hart.noted + (length due + executes (applied_all code.base t 0 inside.hart.value due).0) =
    omega (arith, posts, c.stretch-stretch.ensures.noted 0, one, same) in
    subst (λ (core : MarkedCore). length c.stretch-stretch.new.self.noted ≤ length core.noted + work code t core.value) c.self.view_is both

pub returns-clause-noted : goal.returns-clause-noted
returns-clause-noted c = on_ok_weaker c.send.result (λ sent. noted c) c.send.ensures
