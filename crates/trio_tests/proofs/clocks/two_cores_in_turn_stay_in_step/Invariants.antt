use Rattle.std.proofs.Common.{◌≡◌, vec_len}
use Rattle.trio_tests.proofs.clocks.two_cores_in_turn_stay_in_step.Given as goal

abbrev pub invariant-loop-place : goal.invariant-loop-place
invariant-loop-place g l = vec_len l.overseer.lows ≡ 2
