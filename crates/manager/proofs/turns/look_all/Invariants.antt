use Rattle.std.proofs.Common.{◌≡◌}
use Rattle.core_gate.specs.Seats.{SameOverseer}
use Rattle.manager.proofs.turns.look_all.Given as goal

-- the overseer of the same table, with the same global time
abbrev pub invariant-loop-core : goal.invariant-loop-core
invariant-loop-core l = record {
  global : l.overseer.global ≡ l.fn.overseer.global;
  same : SameOverseer l.fn.overseer l.overseer;
}
