use Rattle.std.proofs.Common.{◌≡◌, ◌≤◌, take}
use Rattle.stat_report.specs.Notes.{count_of, is_bus, is_map, is_line, is_reply}
use Rattle.stat_report.proofs.notes.count_kinds.Given as goal

-- how many there are so far of each kind
abbrev pub invariant-loop-violation : goal.invariant-loop-violation
invariant-loop-violation l =
    (l.tally.bus ≡ count_of is_bus (take l.violation-index l.seen))
    × (l.tally.map ≡ count_of is_map (take l.violation-index l.seen))
    × (l.tally.line ≡ count_of is_line (take l.violation-index l.seen))
    × (l.tally.reply ≡ count_of is_reply (take l.violation-index l.seen))
    × (l.tally.bus ≤ l.violation-index) × (l.tally.map ≤ l.violation-index)
    × (l.tally.line ≤ l.violation-index) × (l.tally.reply ≤ l.violation-index)
