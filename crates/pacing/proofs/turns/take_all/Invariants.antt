use Rattle.std.proofs.Common.{◌≡◌, map, drop, length}
use Rattle.target_law.specs.Numbered.{AllNumbered}
use Rattle.pacing.specs.Pieces.{LaneValue, all_taking}
use Rattle.pacing.specs.Views.{lane_of}
use Rattle.pacing.proofs.turns.take_all.Given as goal

-- what is left to be taken leads from here to where all of it led from the first
abbrev pub invariant-loop-post : goal.invariant-loop-post
invariant-loop-post g l =
    let rules = g.T.Target.rules l.target in
    let here = map (lane_of g.T.Target.values) l.lanes in
    record {
      count : length l.lanes ≡ rules.cores;
      numbers : AllNumbered (λ place (lane : LaneValue g.T.Target.Inner). rules.core_number lane.core.inner ≡ place) 0 here;
      lanes : all_taking rules l.clock here (drop l.post-index l.posts) ≡ all_taking rules l.clock (map (lane_of g.T.Target.values) l.fn.lanes) l.posts;
    }
