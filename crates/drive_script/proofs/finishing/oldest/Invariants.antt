use Rattle.slack_base.specs.declared.stamps.Id.{Id}
use Rattle.drive_script.specs.Views.{world_of}
use Rattle.drive_script.specs.Finishing.{is_before, oldest_id}
use Rattle.drive_script.proofs.Picks.{IsBest}
use Rattle.drive_script.proofs.finishing.oldest.Given as goal

-- of the places so far the best is the first with the least id
abbrev pub invariant-loop-place : goal.invariant-loop-place
invariant-loop-place g l = IsBest Id is_before (oldest_id (world_of g.T.Target.values l.world).lanes) l.place l.best
