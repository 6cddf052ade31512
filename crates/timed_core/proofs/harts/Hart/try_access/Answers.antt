use Rattle.std.proofs.Common.{sym, subst}
use Rattle.timed_core.specs.Outcomes.{Does}
use Rattle.timed_core.specs.Ticks.{id_at}
use Rattle.timed_core.specs.Accesses.{held_in, looked_up}
use Rattle.timed_core.proofs.Hits.{looks_up}
use Rattle.timed_core.proofs.harts.Hart.try_access.Goals as goal

pub returns-in_default-clause-does : goal.returns-in_default-clause-does
returns-in_default-clause-does c = λ base is number.
    let id = id_at c.args.cycle c.args.self.now.value number in
    subst (λ out. Does out id c.look_up-in_default.new.self.value c.look_up-in_default.result)
    (sym (looks_up c.args.access base c.args.address id c.args.self.now.value c.in_default.not-StoreConditional))
    (subst (λ line. Does (looked_up (held_in c.args.self.now.value.cache line) c.args.access base c.args.address 1 id c.args.self.now.value) id c.look_up-in_default.new.self.value c.look_up-in_default.result)
    is (c.look_up-in_default.ensures.does base is number))
