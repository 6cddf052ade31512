use Rattle.std.proofs.Common.{◌≢◌, ℕ, ◌%◌, drop, Some}
use Rattle.slack_base.specs.Inboxes.{with_post}
use Rattle.stamp_queue.specs.Slots.{node_at, slot_posts, IsSlot, KeepsSlot}
use Rattle.stamp_queue.proofs.Chains.{Leads}
use Rattle.stamp_queue.proofs.inbox.nodes.settle.Given as goal

-- what becomes of the chain from here on is so from the first on
abbrev pub invariant-loop-next : goal.invariant-loop-next
invariant-loop-next l = record {
  slot : IsSlot l.nodes (l.post.due % 256) (Some l.place);
  leads : Leads l.nodes (l.post.due % 256) (node_at l.nodes l.place).behind l.place l.post (node_at l.fn.nodes l.first).behind l.first (with_post (drop 1 (slot_posts l.fn.nodes (Some l.first))) l.post);
  others : (k : ℕ) → k ≢ l.post.due % 256 → KeepsSlot l.fn.nodes l.nodes k;
}

abbrev pub decreases-loop-next : goal.decreases-loop-next
decreases-loop-next l = (node_at l.nodes l.place).behind
