use Rattle.std.proofs.Common.{◌≡◌, map}
use Rattle.drive_script.specs.Scripts.{begun}
use Rattle.drive_script.specs.Views.{lane_of}
use Rattle.drive_script.proofs.ends.open_lanes.Given as goal

-- the cores so far have their lanes
abbrev pub invariant-loop-core : goal.invariant-loop-core
invariant-loop-core g l = map (lane_of g.T.Target.values) l.lanes.items ≡ map (begun l.clock) (map g.T.Target.values.core l.yielded)
