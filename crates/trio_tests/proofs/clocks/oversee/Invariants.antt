use Rattle.std.proofs.Common.{◌≡◌, ◌≤◌, vec_len}
use Rattle.trio_tests.proofs.clocks.oversee.Given as goal

abbrev pub invariant-loop : goal.invariant-loop
invariant-loop l = (vec_len l.overseer.lows ≡ 2) × (l.idle ≤ 10000000)
