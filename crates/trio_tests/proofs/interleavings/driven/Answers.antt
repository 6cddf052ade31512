use Rattle.std.proofs.Common.{ap, arith}
use Rattle.target_law.specs.Cycles.{StateValue}
use Rattle.target_law.specs.Trio.{TrioInner, TrioChannel}
use Rattle.trio_tests.proofs.interleavings.driven.Goals as goal

pub drive-requires-clause-top : goal.drive-requires-clause-top
drive-requires-clause-top c =
    let clock = ap (λ (s : StateValue TrioInner TrioChannel). s.clock) c.in_ok-start.ensures.state in
    omega (arith, clock, c.requires)
