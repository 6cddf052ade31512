use Rattle.std.proofs.Common.{◌≡◌, ◌++◌, take}
use Rattle.std.specs.List.{flat_map}
use Rattle.violation_watch.specs.Scan.{take_entries}
use Rattle.violation_watch.proofs.scans.see_taken.Given as goal

-- the posts so far are recorded
abbrev pub invariant-loop-one : goal.invariant-loop-one
invariant-loop-one l = l.watch.found ≡ l.fn.watch.found ++ flat_map (take_entries l.core l.end) (take l.one-index l.taken)
