use Rattle.slack_base.specs.declared.stamps.Id.{Id}
use Rattle.drive_script.specs.Finishing.{is_before}
use Rattle.drive_script.proofs.Picks.{IsBest}
use Rattle.manager.specs.Queues.{queues_of, next_id}
use Rattle.manager.proofs.picking.next_place.Given as goal

-- of the places so far the best is the first with the least id
abbrev pub invariant-loop-place : goal.invariant-loop-place
invariant-loop-place g l = IsBest Id is_before (next_id (g.T.Target.rules l.target) (queues_of l.desks.items)) l.place l.best
