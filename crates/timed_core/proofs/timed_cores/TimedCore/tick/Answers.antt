use Rattle.std.proofs.Common.{◌+◌, ◌≤◌, length, subst}
use Rattle.timed_core.proofs.Noting.{the_work}
use Rattle.timed_core.proofs.Stretches.{IsOneTick, the_tick}
use Rattle.timed_core.proofs.timed_cores.TimedCore.tick.Goals as goal

single : (c : goal.In_ok-part) → IsOneTick c.args.code.now c.args.cycle c.args.self.now.value c.part.new.self.value c.args.out.now c.part.new.out
single c =
    the_tick c.args.code.now c.args.cycle c.in_ok-part.field-0 c.args.self.now.value c.part.new.self.value c.args.out.now c.part.new.out
    c.in_ok-part.ensures.reached.0 c.in_ok-part.ensures.reached.1 c.in_ok-part.ensures.ticks

pub returns-clause-core : goal.returns-clause-core
returns-clause-core c = (single c).after

pub returns-clause-asks : goal.returns-clause-asks
returns-clause-asks c = (single c).asks

pub returns-clause-noted : goal.returns-clause-noted
returns-clause-noted c =
    subst (λ n. length c.part.new.self.noted ≤ length c.args.self.now.noted + n)
    (the_work c.args.code.now c.args.cycle c.in_ok-part.field-0 c.args.self.now.value c.in_ok-part.ensures.reached.0 c.in_ok-part.ensures.reached.1)
    c.in_ok-part.ensures.noted
