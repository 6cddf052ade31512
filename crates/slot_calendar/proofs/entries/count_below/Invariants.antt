use Rattle.std.proofs.Common.{◌≡◌, ◌≤◌, false, drop, length}
use Rattle.std.specs.List.{AllByRecursion as Each}
use Rattle.slack_base.specs.Stamps.{is_above}
use Rattle.slot_calendar.proofs.entries.count_below.Given as goal

-- none from the count on is below
abbrev pub invariant-loop-count : goal.invariant-loop-count
invariant-loop-count l = (l.count ≤ length l.entries) × Each (λ e. is_above l.id e.slot.id ≡ false) (drop l.count l.entries)

abbrev pub decreases-loop-count : goal.decreases-loop-count
decreases-loop-count l = l.count
