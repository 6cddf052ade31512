use Rattle.std.proofs.Common.{◌≡◌, ◌+◌, ◌≤◌, length}
use Rattle.stamp_queue.specs.Rings.{all_sent, waiting, free_slots, SameSender}
use Rattle.stamp_queue.proofs.senders.Sender.flush.Given as goal

-- what was sent is the same, and no slot that was known to be free is lost
abbrev pub invariant-loop-self : goal.invariant-loop-self
invariant-loop-self g l = record {
  sent : all_sent l.self ≡ all_sent l.fn.self;
  used : free_slots l.fn.self + length (waiting l.self) ≤ free_slots l.self + length (waiting l.fn.self);
  same : SameSender l.fn.self l.self;
}

abbrev pub decreases-loop-self : goal.decreases-loop-self
decreases-loop-self g l = length l.self.overflow.items
