use Rattle.std.proofs.Common.{◌≡◌, ◌++◌, take}
use Rattle.std.specs.List.{flat_map}
use Rattle.stat_report.specs.Notes.{violation_line}
use Rattle.stat_report.proofs.notes.push_violations.Given as goal

-- the lines so far are appended
abbrev pub invariant-loop-violation : goal.invariant-loop-violation
invariant-loop-violation l = l.text ≡ l.fn.text ++ flat_map violation_line (take l.violation-index l.seen)
