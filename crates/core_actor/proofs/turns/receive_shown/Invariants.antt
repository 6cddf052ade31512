use Rattle.std.proofs.Common.{◌≡◌, ◌+◌, length}
use Rattle.stamp_queue.specs.Rings.{all_received, HandsOver, SameReceiver}
use Rattle.core_actor.proofs.turns.receive_shown.Given as goal

-- what was received so far waits behind the others
abbrev pub invariant-loop : goal.invariant-loop
invariant-loop l = record {
  handed : HandsOver l.fn.posts l.posts l.fn.queue.items l.queue.items;
  count : length (all_received l.posts) ≡ length (all_received l.fn.posts) + l.counter;
  same : SameReceiver l.fn.posts l.posts;
}
