use Rattle.std.proofs.Common.{length, ◌-◌, ◌≡◌, ◌≤◌}
use Rattle.slot_calendar.specs.Entries.{raised_to, changed_between}
use Rattle.slot_calendar.proofs.inserting.raise.Given as goal

-- changed so far
abbrev pub invariant-loop-next : goal.invariant-loop-next
invariant-loop-next l = (l.place ≤ l.next) × (l.next ≤ length l.initial.entries) × (l.entries ≡ changed_between (raised_to l.grant) l.place l.next l.initial.entries)

abbrev pub decreases-loop-next : goal.decreases-loop-next
decreases-loop-next l = length l.initial.entries - l.next
