use Rattle.std.proofs.Common.{◌≡◌, take}
use Rattle.manager.specs.Leads.{Sent}
use Rattle.manager.specs.Places.{PlacePairs}
use Rattle.manager.specs.Queues.{queues_of}
use Rattle.manager.proofs.turns.send_all.Given as goal

-- the posts so far were sent, and what waits at desks stays
abbrev pub invariant-loop-post : goal.invariant-loop-post
invariant-loop-post l = record {
  desks : PlacePairs (Sent (take l.post-index l.posts)) l.fn.desks.items l.desks.items;
  queues : queues_of l.desks.items ≡ queues_of l.fn.desks.items;
}
