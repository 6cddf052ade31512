use Rattle.std.proofs.Common.{◌≡◌, ◌++◌, map, take, drop}
use Rattle.pacing.specs.Pieces.{lane_ticked}
use Rattle.pacing.specs.Views.{ticked_of}
use Rattle.pacing.proofs.sweeps.tick_each.Given as goal

-- the cores so far have ticked
abbrev pub invariant-loop-lane : goal.invariant-loop-lane
invariant-loop-lane g l =
    let before = map (ticked_of g.T.Target.values) l.fn.lanes in
    map (ticked_of g.T.Target.values) l.lanes ≡ map (λ seen. lane_ticked (g.T.Target.rules l.target) l.from l.len seen.0) (take l.lane-index before) ++ drop l.lane-index before
