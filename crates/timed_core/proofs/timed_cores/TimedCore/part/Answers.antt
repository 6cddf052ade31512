use Rattle.std.proofs.Common.{◌≡◌, ◌∙◌, ◌+◌, ◌-◌, ◌≤◌, [], ◌++◌, length, ap, sym, subst, arith, rules, append-nil}
use Rattle.timed_core.specs.Noting.{works}
use Rattle.timed_core.specs.Outcomes.{ask_of}
use Rattle.timed_core.specs.Ticks.{asks_of, id_at}
use Rattle.timed_core.specs.Stretches.{AreTicks}
use Rattle.timed_core.specs.Views.{MarkedCore}
use Rattle.timed_core.proofs.Noting.{works_of_stretch}
use Rattle.timed_core.proofs.Stretches.{stretch_ticks, asked, nothing_of}
use Rattle.timed_core.proofs.timed_cores.TimedCore.part.Goals as goal

pub returns-clause-ticks : goal.returns-clause-ticks
returns-clause-ticks c =
    let inbox = c.self.inside.inbox in
    let end = c.stretch-stretch.result in
    let before : end.next ≤ c.next_due-due.result = grind (arith, c.min.ensures, c.stretch-stretch.ensures.next) in
    subst (λ core. AreTicks c.args.code.now c.args.from end.next core.value (record { inner = c.stretch-stretch.new.self.value; inbox = inbox }) c.args.out.now c.send.new.out) c.self.view_is
    (stretch_ticks c.args.code.now c.args.from c.next_due-due.result c.self.inside.hart.value c.stretch-stretch.new.self.value inbox end c.args.out.now c.send.new.out
    c.next_due-due.ensures.before c.stretch-stretch.ensures.next.0 before (c.stretch-stretch.ensures.stretch 0) (c.in_ok-send.ensures ∙ ap (λ ask. c.args.out.now ++ asks_of ask) (c.ask.ensures ∙ ap (ask_of end.outcome) c.id_at-id.ensures)))

pub returns-then-not-asks-clause-ticks : goal.returns-then-not-asks-clause-ticks
returns-then-not-asks-clause-ticks c =
    let inbox = c.self.inside.inbox in
    let end = c.stretch-stretch.result in
    let new = c.stretch-stretch.new.self.value in
    let sent = c.args.out.now in
    let before : end.next ≤ c.next_due-due.result = grind (arith, c.min.ensures, c.stretch-stretch.ensures.next) in
    let none : [] ≡ asked 0 new end = sym (nothing_of end.outcome (id_at (end.next - 1) new 0) (search rules)) in
    subst (λ core. AreTicks c.args.code.now c.args.from end.next core.value (record { inner = new; inbox = inbox }) sent sent) c.self.view_is
    (stretch_ticks c.args.code.now c.args.from c.next_due-due.result c.self.inside.hart.value new inbox end sent sent
    c.next_due-due.ensures.before c.stretch-stretch.ensures.next.0 before (c.stretch-stretch.ensures.stretch 0) (sym (append-nil sent) ∙ ap (λ asks. sent ++ asks) none))

pub returns-clause-noted : goal.returns-clause-noted
returns-clause-noted c =
    let inside = c.self.inside in
    let end = c.stretch-stretch.result in
    let before : end.next ≤ c.next_due-due.result = grind (arith, c.min.ensures, c.stretch-stretch.ensures.next) in
    let same = works_of_stretch c.args.code.now c.args.from (end.next - c.args.from) c.next_due-due.result inside.hart.value inside.inbox
    c.next_due-due.ensures.before (omega (arith, c.stretch-stretch.ensures.next.0, before)) in
    subst (λ (core : MarkedCore). length c.stretch-stretch.new.self.noted ≤ length core.noted + works c.args.code.now c.args.from (end.next - c.args.from) core.value) c.self.view_is
    (subst (λ n. length c.stretch-stretch.new.self.noted ≤ length inside.hart.noted + n) (sym same) (c.stretch-stretch.ensures.noted 0))

pub returns-then-not-asks-clause-noted : goal.returns-then-not-asks-clause-noted
returns-then-not-asks-clause-noted c =
    let inside = c.self.inside in
    let end = c.stretch-stretch.result in
    let before : end.next ≤ c.next_due-due.result = grind (arith, c.min.ensures, c.stretch-stretch.ensures.next) in
    let same = works_of_stretch c.args.code.now c.args.from (end.next - c.args.from) c.next_due-due.result inside.hart.value inside.inbox
    c.next_due-due.ensures.before (omega (arith, c.stretch-stretch.ensures.next.0, before)) in
    subst (λ (core : MarkedCore). length c.stretch-stretch.new.self.noted ≤ length core.noted + works c.args.code.now c.args.from (end.next - c.args.from) core.value) c.self.view_is
    (subst (λ n. length c.stretch-stretch.new.self.noted ≤ length inside.hart.noted + n) (sym same) (c.stretch-stretch.ensures.noted 0))
