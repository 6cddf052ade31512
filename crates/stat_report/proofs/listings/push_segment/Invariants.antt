use Rattle.std.proofs.Common.{◌≡◌, ◌+◌, ◌-◌, ◌%◌, ◌<◌, ◌++◌, length}
use Rattle.stat_report.specs.Listing.{segment_text}
use Rattle.stat_report.proofs.ListedLines.{lines_from}
use Rattle.stat_report.proofs.listings.push_segment.Given as goal

abbrev pub invariant-loop-place : goal.invariant-loop-place
invariant-loop-place l = record {
  so_far : l.text ++ lines_from l.segment l.place ≡ l.initial.text ++ segment_text l.segment;
  aligned : (l.segment.address + l.place) % 4 ≡ 0;
  near : l.place < length l.segment.bytes + 4;
}

abbrev pub decreases-loop-place : goal.decreases-loop-place
decreases-loop-place l = length l.segment.bytes - l.place
