use Rattle.std.proofs.Common.{◌≡◌, map, drop, length}
use Rattle.drive_script.specs.Views.{lane_of}
use Rattle.drive_script.specs.Worlds.{posted}
use Rattle.drive_script.proofs.worlds.post_all.Given as goal

-- what is left to be posted leads from here to where all of it led from the first
abbrev pub invariant-loop-post : goal.invariant-loop-post
invariant-loop-post g l =
    let view = lane_of g.T.Target.values in
    record {
      count : length l.lanes.items ≡ length l.fn.lanes.items;
      lanes : posted (map view l.lanes.items) (drop l.post-index l.posts) ≡ posted (map view l.fn.lanes.items) l.posts;
    }
