use Rattle.std.proofs.Common.{◌≡◌, map}
use Rattle.pacing.specs.Pieces.{LaneValue}
use Rattle.pacing.specs.Views.{lane_of}
use Rattle.pacing.proofs.ends.close_lanes.Given as goal

-- of the lanes so far
abbrev pub invariant-loop-lane : goal.invariant-loop-lane
invariant-loop-lane g l =
    let seen = map (lane_of g.T.Target.values) l.yielded in
    record {
      cores : map g.T.Target.values.core l.cores ≡ map (λ (lane : LaneValue g.T.Target.Inner). lane.core) seen;
      sent : l.sent ≡ map (λ (lane : LaneValue g.T.Target.Inner). lane.taken) seen;
    }
