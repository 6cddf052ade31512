use Rattle.std.proofs.Common.{◌≡◌, length}
use Rattle.stamp_queue.specs.Rings.{all_pushed, all_sent, waiting, all_received, SameSender, SameReceiver, HandsOver}
use Rattle.stamp_queue.proofs.drains.drain.Given as goal

-- the ring is empty
abbrev pub invariant-loop-sender : goal.invariant-loop-sender
invariant-loop-sender g l = record {
  pushed : all_received l.receiver ≡ all_pushed l.sender;
  sent : all_sent l.sender ≡ all_sent l.fn.sender;
  out : HandsOver l.fn.receiver l.receiver l.fn.out l.out;
  same : SameSender l.fn.sender l.sender × SameReceiver l.fn.receiver l.receiver;
}

abbrev pub decreases-loop-sender : goal.decreases-loop-sender
decreases-loop-sender g l = length (waiting l.sender)
