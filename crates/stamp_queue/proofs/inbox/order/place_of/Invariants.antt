use Rattle.std.proofs.Common.{length, ◌-◌, ◌≡◌, ◌≤◌, ◌++◌, take, drop}
use Rattle.slack_base.specs.Inboxes.{with_post}
use Rattle.stamp_queue.proofs.inbox.order.place_of.Given as goal

-- the post stands behind those so far
abbrev pub invariant-loop-place : goal.invariant-loop-place
invariant-loop-place l = (l.place ≤ length l.posts) × (with_post l.posts l.post ≡ take l.place l.posts ++ with_post (drop l.place l.posts) l.post)

abbrev pub decreases-loop-place : goal.decreases-loop-place
decreases-loop-place l = length l.posts - l.place
