use Rattle.std.proofs.Common.{◌≤◌}
use Rattle.trio_tests.proofs.clocks.Core.advance_all.Given as goal

abbrev pub invariant-loop : goal.invariant-loop
invariant-loop l = l.idle ≤ 10000000
