use Rattle.std.proofs.Common.{◌≡◌, ◌∙◌, sym, ap, subst, rules}
use Rattle.std.specs.Option.{option_map}
use Rattle.timed_core.specs.Code.{instr_at}
use Rattle.timed_core.specs.Kept.{instr_in, instr_of_kept}
use Rattle.timed_core.specs.Outcomes.{Does}
use Rattle.timed_core.specs.Ticks.{id_at}
use Rattle.timed_core.proofs.Fetching.{executed_of}
use Rattle.timed_core.proofs.harts.Hart.fetch.Goals as goal

pub returns-clause-does : goal.returns-clause-does
returns-clause-does c = λ number.
    let code = c.args.code.now in
    let core = c.args.self.now.value in
    let id = id_at c.args.cycle core number in
    let instr : instr_in c.in-Some.kept.now ≡ instr_at code core.pc =
    sym (ap (λ o. instr_of_kept (option_map (λ k. k.now) o)) c.in-Some.is) ∙ c.kept.ensures.value ∙ ap (λ h. instr_at code h.value.pc) c.self.view_is in
    subst (λ out. Does out id c.execute.new.self.value c.execute.result)
    (executed_of code id core (instr_in c.in-Some.kept.now) instr (search rules)) (c.execute.ensures.does number)
