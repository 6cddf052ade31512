use Rattle.manager.specs.Leads.{Received}
use Rattle.manager.specs.Places.{PlacePairs}
use Rattle.manager.proofs.turns.receive_all.Given as goal

-- of each desk what was received so far waits
abbrev pub invariant-loop-place : goal.invariant-loop-place
invariant-loop-place l = PlacePairs Received l.fn.desks.items l.desks.items
