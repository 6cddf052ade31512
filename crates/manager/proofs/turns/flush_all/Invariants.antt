use Rattle.std.proofs.Common.{◌≡◌, []}
use Rattle.manager.specs.Leads.{Sent}
use Rattle.manager.specs.Places.{PlacePairs}
use Rattle.manager.specs.Queues.{queues_of}
use Rattle.manager.proofs.turns.flush_all.Given as goal

-- nothing more was sent, and what waits at desks stays
abbrev pub invariant-loop-place : goal.invariant-loop-place
invariant-loop-place l = record {
  desks : PlacePairs (Sent []) l.fn.desks.items l.desks.items;
  queues : queues_of l.desks.items ≡ queues_of l.fn.desks.items;
}
