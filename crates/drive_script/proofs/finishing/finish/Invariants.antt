use Rattle.drive_script.specs.Open.{IsOpen}
use Rattle.drive_script.specs.Views.{world_of}
use Rattle.drive_script.specs.Finishing.{NoKey, oldest_id, oldest_post}
use Rattle.drive_script.specs.Loops.{LeadsTo, ticks_left}
use Rattle.drive_script.proofs.finishing.finish.Given as goal

-- nothing waits; and what finishing leads to from here, it leads to from the first
abbrev pub invariant-loop-place : goal.invariant-loop-place
invariant-loop-place g l =
    let rules = g.T.Target.rules l.target in
    let now = world_of g.T.Target.values l.world in
    record {
      opened : IsOpen rules (g.T.Target.owns l.target) now;
      leads : LeadsTo rules (world_of g.T.Target.values l.fn.world) now;
      served : NoKey (oldest_id now.lanes);
      taken : NoKey (oldest_post now.lanes);
    }

abbrev pub decreases-loop-place : goal.decreases-loop-place
decreases-loop-place g l = ticks_left (world_of g.T.Target.values l.world)
