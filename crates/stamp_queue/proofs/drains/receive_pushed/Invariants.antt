use Rattle.std.proofs.Common.{◌≡◌, ◌+◌, ◌++◌, length}
use Rattle.stamp_queue.specs.Rings.{all_pushed, waiting, all_received, known, SameSender, SameReceiver, HandsOver}
use Rattle.stamp_queue.proofs.drains.receive_pushed.Given as goal

-- what was received, and what the receiver still knows of, is what is in the ring
abbrev pub invariant-loop : goal.invariant-loop
invariant-loop g l = record {
  left : length (known l.receiver) + l.counter ≡ l.count;
  pushed : all_received l.receiver ++ known l.receiver ≡ all_pushed l.sender;
  sent : all_pushed l.sender ≡ all_pushed l.fn.sender;
  waits : waiting l.sender ≡ waiting l.fn.sender;
  out : HandsOver l.fn.receiver l.receiver l.fn.out l.out;
  same : SameSender l.fn.sender l.sender × SameReceiver l.fn.receiver l.receiver;
}
