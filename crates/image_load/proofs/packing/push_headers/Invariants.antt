use Rattle.std.proofs.Common.{◌≡◌, ◌++◌, take}
use Rattle.std.specs.List.{All, flat_map}
use Rattle.image_load.specs.Packed.{segment_header}
use Rattle.image_load.specs.Writing.{HasWords}
use Rattle.image_load.proofs.packing.push_headers.Given as goal

-- the headers of the segments so far are written
abbrev pub invariant-loop-segment : goal.invariant-loop-segment
invariant-loop-segment l = (l.file.items ≡ l.initial.file.items ++ flat_map segment_header (take l.segment-index l.segments)) × All HasWords (take l.segment-index l.segments)
