use Rattle.std.proofs.Common.{◌≡◌, ◌++◌, length}
use Rattle.stamp_queue.specs.Rings.{all_sent, SameSender}
use Rattle.core_actor.specs.Actors.{HasFlushed}
use Rattle.core_actor.proofs.turns.send_all.Given as goal

-- what was sent so far, and then what waits
abbrev pub invariant-loop-ask : goal.invariant-loop-ask
invariant-loop-ask l = record {
  sent : all_sent l.asks ++ l.queue.items ≡ all_sent l.fn.asks ++ l.fn.queue.items;
  flushed : HasFlushed l.fn.asks → HasFlushed l.asks;
  same : SameSender l.fn.asks l.asks;
}

abbrev pub decreases-loop-ask : goal.decreases-loop-ask
decreases-loop-ask l = length l.queue.items
