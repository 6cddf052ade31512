use Rattle.std.proofs.Common.{◌≡◌}
use Rattle.drive_script.specs.Open.{IsOpen}
use Rattle.drive_script.specs.Views.{world_of}
use Rattle.drive_script.specs.Finishing.{NoKey, oldest_id}
use Rattle.drive_script.specs.Loops.{LeadsTo, ticks_left}
use Rattle.drive_script.proofs.Waiting.{posts_waiting}
use Rattle.drive_script.proofs.finishing.take_all.Given as goal

-- what finishing leads to from here, it leads to from the first
abbrev pub invariant-loop-place : goal.invariant-loop-place
invariant-loop-place g l =
    let rules = g.T.Target.rules l.target in
    let first = world_of g.T.Target.values l.fn.world in
    let now = world_of g.T.Target.values l.world in
    record {
      opened : IsOpen rules (g.T.Target.owns l.target) now;
      leads : LeadsTo rules first now;
      served : NoKey (oldest_id now.lanes);
      left : ticks_left now ≡ ticks_left first;
    }

abbrev pub decreases-loop-place : goal.decreases-loop-place
decreases-loop-place g l = posts_waiting (world_of g.T.Target.values l.world).lanes
