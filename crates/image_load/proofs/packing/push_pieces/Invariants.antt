use Rattle.std.proofs.Common.{◌≡◌, ◌++◌, take}
use Rattle.std.specs.List.{flat_map}
use Rattle.slack_base.specs.declared.images.Segment.{Segment}
use Rattle.image_load.proofs.packing.push_pieces.Given as goal

-- the bytes of the segments so far are written
abbrev pub invariant-loop-segment : goal.invariant-loop-segment
invariant-loop-segment l = l.file.items ≡ l.initial.file.items ++ flat_map (λ (s : Segment). s.bytes) (take l.segment-index l.segments)
