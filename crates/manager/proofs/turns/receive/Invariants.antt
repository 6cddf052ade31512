use Rattle.stamp_queue.specs.Rings.{HandsOver, SameReceiver}
use Rattle.manager.proofs.turns.receive.Given as goal

-- what was received so far waits
abbrev pub invariant-loop : goal.invariant-loop
invariant-loop l = record {
  items : HandsOver l.fn.asks l.asks l.fn.pending.items l.pending.items;
  same : SameReceiver l.fn.asks l.asks;
}
