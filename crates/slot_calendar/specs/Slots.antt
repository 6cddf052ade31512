-- The slots of the asks that a bus served since its calendar was closed, and where an ask comes in among them.
use Rattle.std.specs.Prelude.{ℕ, ◌+◌, ◌≡◌, ◌&&◌, false, List, [], ◌∷◌, Option, None, Some, max, nat_lt, filter, if◌then◌else◌}
use Rattle.std.specs.List.{AllByRecursion as Each}
use Rattle.slack_base.specs.declared.stamps.Id.{Id}
use Rattle.slack_base.specs.Growing.{capped}
use Rattle.slack_base.specs.HighestIds.{later_of}
use Rattle.slack_base.specs.Stamps.{is_above}
use Rattle.slot_calendar.specs.declared.slots.Slot.{Slot}

-- no id is above one that stands behind it
abbrev pub IsInOrder : List Slot → Type 0
IsInOrder [] = Unit {0}
IsInOrder (s ∷ slots) = Each (λ q. is_above s.id q.id ≡ false) slots × IsInOrder slots

-- the cycle from which a bus that was granted at a cycle is free again
abbrev pub end_of : (occupancy grant : ℕ) → ℕ
end_of occupancy grant = capped (grant + occupancy)

-- the greatest of `free` and the ends of these slots
abbrev pub last_end : (occupancy free : ℕ) → List Slot → ℕ
last_end occupancy free [] = free
last_end occupancy free (s ∷ slots) = max (end_of occupancy s.grant) (last_end occupancy free slots)

-- the greatest id of these slots
abbrev pub greatest_id : List Slot → Option Id
greatest_id [] = None
greatest_id (s ∷ slots) = Some (later_of (greatest_id slots) s.id)

-- the slots of ids below this one
abbrev pub below : Id → List Slot → List Slot
below x slots = filter (λ s. is_above x s.id) slots

-- the slots of ids above this one that begin before a limit
abbrev pub in_way : (limit : ℕ) → Id → List Slot → List Slot
in_way limit x slots = filter (λ s. is_above s.id x && nat_lt s.grant limit) slots

-- the ask's grant if no slot of a greater id were there: no sooner than its stamp, and behind all slots of lower ids
abbrev pub fit : (occupancy free stamp : ℕ) → Id → List Slot → ℕ
fit occupancy free stamp x slots = max stamp (last_end occupancy free (below x slots))

-- the greatest id above the ask's own whose slot begins before the ask, so granted, would be done with the bus
abbrev pub clash : (occupancy free stamp : ℕ) → Id → List Slot → Option Id
clash occupancy free stamp x slots = greatest_id (in_way (end_of occupancy (fit occupancy free stamp x slots)) x slots)

-- the ask's grant, by its clash: with one it comes behind all slots
abbrev pub grant_by : Option Id → (occupancy free stamp : ℕ) → Id → List Slot → ℕ
grant_by None occupancy free stamp x slots = fit occupancy free stamp x slots
grant_by (Some high) occupancy free stamp x slots = max stamp (last_end occupancy free slots)

abbrev pub grant_in : (occupancy free stamp : ℕ) → Id → List Slot → ℕ
grant_in occupancy free stamp x slots = grant_by (clash occupancy free stamp x slots) occupancy free stamp x slots

-- the slot in its place: before the first of a greater id, and so behind those of its own
abbrev pub with_slot : Slot → List Slot → List Slot
with_slot x [] = x ∷ []
with_slot x (s ∷ slots) = if is_above s.id x.id then x ∷ s ∷ slots else s ∷ with_slot x slots

-- the slots with that of the ask
abbrev pub placed : (occupancy free stamp : ℕ) → Id → List Slot → List Slot
placed occupancy free stamp x slots = with_slot (record { id = x; grant = grant_in occupancy free stamp x slots }) slots
