use Rattle.std.proofs.Common.{◌≡◌, ◌∙◌, ◌/◌, true, ap, sym, subst, rules}
use Rattle.timed_core.specs.Accesses.{is_aligned, tried}
use Rattle.timed_core.specs.Code.{is_in_memory}
use Rattle.timed_core.specs.Cores.{HartValue, line_number}
use Rattle.timed_core.specs.Outcomes.{Does, DoesAt}
use Rattle.timed_core.specs.Ticks.{id_at}
use Rattle.timed_core.specs.Touches.{touched_at}
use Rattle.timed_core.specs.Views.{NotedHart}
use Rattle.timed_core.proofs.Hits.{is_tried}
use Rattle.timed_core.proofs.harts.Hart.access.Goals as goal

pub returns-clause-does : goal.returns-clause-does
returns-clause-does c = λ number.
    let code = c.args.code.now in
    let core = c.args.self.now.value in
    let address = c.args.address in
    let id = id_at c.args.cycle core number in
    let aligned : is_aligned c.args.access address ≡ true = search rules in
    let inside : is_in_memory code address ≡ true = search rules in
    let line : c.offset-line.result / 16 ≡ line_number code.base address = search rules in
    let touched : c.touch.new.self.value ≡ touched_at c.args.cycle (line_number code.base address) core =
    ap (λ (h : NotedHart). h.value) c.touch.ensures
    ∙ ap (λ n. touched_at c.args.cycle n c.prepare.new.self.value) line
    ∙ ap (touched_at c.args.cycle (line_number code.base address)) c.prepare.ensures.value in
    let does : DoesAt (λ i. tried c.args.access code.base address 1 i (touched_at c.args.cycle (line_number code.base address) core)) c.args.cycle
    (touched_at c.args.cycle (line_number code.base address) core) c.try_access.new.self.value c.try_access.result =
    subst (λ (h : HartValue). DoesAt (λ i. tried c.args.access code.base address 1 i h) c.args.cycle h c.try_access.new.self.value c.try_access.result)
    touched (c.try_access.ensures.does code.base line) in
    subst (λ out. Does out id c.try_access.new.self.value c.try_access.result) (sym (is_tried code c.args.access address id core aligned inside)) (does number)
