use Rattle.std.proofs.Common.{◌≡◌, ◌++◌, map, take}
use Rattle.std.specs.List.{flat_map}
use Rattle.stat_report.specs.Listing.{segment_text}
use Rattle.stat_report.proofs.listings.push_segments.Given as goal

abbrev pub invariant-loop-segment : goal.invariant-loop-segment
invariant-loop-segment l = l.text ≡ l.initial.text ++ flat_map segment_text (map (λ s. s.now) (take l.segment-index l.segments))
