use Rattle.std.proofs.Common.{◌≡◌, take, map}
use Rattle.image_load.specs.Layouts.{segment_of}
use Rattle.image_load.proofs.layouts.segments_of.Given as goal

-- the segments of the pieces so far
abbrev pub invariant-loop-load : goal.invariant-loop-load
invariant-loop-load l = l.segments ≡ map (segment_of l.fn.bytes) (take l.load-index l.loads)
