use Rattle.std.proofs.Common.{◌≡◌}
use Rattle.core_gate.specs.Seats.{cores_of}
use Rattle.gate_bench.proofs.rounds.alone.Given as goal

abbrev pub invariant-loop : goal.invariant-loop
invariant-loop l = cores_of l.overseer ≡ l.cores
