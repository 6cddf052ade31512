use Rattle.std.proofs.Common.{◌≡◌, map}
use Rattle.pacing.specs.Pieces.{lane_begun}
use Rattle.pacing.specs.Views.{lane_of}
use Rattle.pacing.proofs.ends.begin_lanes.Given as goal

-- the cores so far have their lanes
abbrev pub invariant-loop-core : goal.invariant-loop-core
invariant-loop-core g l = map (lane_of g.T.Target.values) l.lanes.items ≡ map lane_begun (map g.T.Target.values.core l.yielded)
