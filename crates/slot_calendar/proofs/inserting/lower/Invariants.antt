use Rattle.std.proofs.Common.{◌≡◌, ◌≤◌}
use Rattle.slot_calendar.specs.Entries.{lowered_to, changed_between}
use Rattle.slot_calendar.proofs.inserting.lower.Given as goal

-- changed so far
abbrev pub invariant-loop-count : goal.invariant-loop-count
invariant-loop-count l = (l.count ≤ l.place) × (l.entries ≡ changed_between (lowered_to l.grant) l.count l.place l.initial.entries)

abbrev pub decreases-loop-count : goal.decreases-loop-count
decreases-loop-count l = l.count
