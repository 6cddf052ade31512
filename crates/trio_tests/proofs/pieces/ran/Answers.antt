use Rattle.std.proofs.Common.{ap, arith}
use Rattle.target_law.specs.Cycles.{StateValue}
use Rattle.target_law.specs.Trio.{TrioInner, TrioChannel}
use Rattle.trio_tests.proofs.pieces.ran.Goals as goal

pub quantum_run-requires-clause-begins : goal.quantum_run-requires-clause-begins
quantum_run-requires-clause-begins g c =
    let clock = ap (λ (s : StateValue TrioInner TrioChannel). s.clock) c.in_ok-start.ensures.state in
    omega (arith, clock)
