use Rattle.std.proofs.Common.{◌-◌}
use Rattle.stamp_queue.proofs.Marks.{Searched}
use Rattle.stamp_queue.proofs.inbox.occupied.Occupied.next_from.Given as goal

abbrev pub invariant-loop-bits : goal.invariant-loop-bits
invariant-loop-bits l = Searched l.self l.slot l.word l.bits

abbrev pub decreases-loop-bits : goal.decreases-loop-bits
decreases-loop-bits l = 4 - l.word
