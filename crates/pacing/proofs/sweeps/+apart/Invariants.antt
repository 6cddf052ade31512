use Rattle.std.proofs.Common.{◌+◌, ◌*◌, max, length}
use Rattle.pacing.proofs.sweeps.+apart.Given as goal

abbrev pub decreases-tick_both : goal.decreases-tick_both
decreases-tick_both g l = 3 * max (length l.front.now) (length l.back.now) + 2

abbrev pub decreases-tick_both-one : goal.decreases-tick_both-one
decreases-tick_both-one g l = 3 * length l.front.now + 1

abbrev pub decreases-tick_both-two : goal.decreases-tick_both-two
decreases-tick_both-two g l = 3 * length l.back.now + 1

abbrev pub decreases-tick_apart : goal.decreases-tick_apart
decreases-tick_apart g l = 3 * length l.lanes.now
