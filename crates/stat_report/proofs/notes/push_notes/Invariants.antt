use Rattle.std.proofs.Common.{◌≡◌, ◌++◌, drop}
use Rattle.stat_report.specs.Notes.{lines_from}
use Rattle.stat_report.proofs.notes.push_notes.Given as goal

-- with the lines that are left, the text is whole
abbrev pub invariant-loop-number : goal.invariant-loop-number
invariant-loop-number l = l.text ++ lines_from l.number (drop l.number l.notes) ≡ l.fn.text ++ lines_from 0 l.notes
