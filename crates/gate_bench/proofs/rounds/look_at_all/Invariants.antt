use Rattle.std.proofs.Common.{◌≡◌}
use Rattle.core_gate.specs.Seats.{cores_of}
use Rattle.gate_bench.proofs.rounds.look_at_all.Given as goal

abbrev pub invariant-loop-core : goal.invariant-loop-core
invariant-loop-core l = cores_of l.overseer ≡ l.cores
