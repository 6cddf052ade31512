-- Asks that one calendar serves, one after another.
use Rattle.std.specs.Prelude.{ℕ, IsTrue, List, [], ◌∷◌, Option, max, if◌then◌else◌}
use Rattle.std.specs.List.{AllByRecursion as Each}
use Rattle.slack_base.specs.declared.stamps.Id.{Id}
use Rattle.slack_base.specs.Stamps.{is_above}
use Rattle.slot_calendar.specs.declared.slots.Slot.{Slot}
use Rattle.slot_calendar.specs.Slots.{end_of, clash, grant_in, placed}

-- an ask for the bus
pub record BusAsk : Type 0 where
  pub id : Id
  pub stamp : ℕ

-- the ask has an id above all of these slots
abbrev pub IsNext : BusAsk → List Slot → Type 0
IsNext x slots = Each (λ s. IsTrue (is_above x.id s.id)) slots

-- each ask has a greater id than those before it
abbrev pub AreRising : List BusAsk → Type 0
AreRising [] = Unit {0}
AreRising (x ∷ asks) = Each (λ y. IsTrue (is_above y.id x.id)) asks × AreRising asks

-- the ask in its place: before the first with a greater id
abbrev pub inserted : BusAsk → List BusAsk → List BusAsk
inserted x [] = x ∷ []
inserted x (y ∷ asks) = if is_above y.id x.id then x ∷ y ∷ asks else y ∷ inserted x asks

-- on a bus that was free from `free` on when its calendar was closed
module _ (occupancy free : ℕ) where
  abbrev pub clash_of : BusAsk → List Slot → Option Id
  clash_of x slots = clash occupancy free x.stamp x.id slots

  abbrev pub slot_of : BusAsk → List Slot → Slot
  slot_of x slots = record { id = x.id; grant = grant_in occupancy free x.stamp x.id slots }

  abbrev pub with_ask : BusAsk → List Slot → List Slot
  with_ask x slots = placed occupancy free x.stamp x.id slots

  -- the slots after these asks
  abbrev pub served_all : List BusAsk → List Slot → List Slot
  served_all [] slots = slots
  served_all (x ∷ asks) slots = served_all asks (with_ask x slots)

  -- the slots that these asks get, in the order in which they are served
  abbrev pub given_all : List BusAsk → List Slot → List Slot
  given_all [] slots = []
  given_all (x ∷ asks) slots = slot_of x slots ∷ given_all asks (with_ask x slots)

  -- their clashes, each just before the ask is served
  abbrev pub clashes_all : List BusAsk → List Slot → List (Option Id)
  clashes_all [] slots = []
  clashes_all (x ∷ asks) slots = clash_of x slots ∷ clashes_all asks (with_ask x slots)

-- a bus without a calendar, which only knows from when on it is free: the slots of asks as they come
abbrev pub in_turn : (occupancy free : ℕ) → List BusAsk → List Slot
in_turn occupancy free [] = []
in_turn occupancy free (x ∷ asks) = let grant = max x.stamp free in record { id = x.id; grant = grant } ∷ in_turn occupancy (end_of occupancy grant) asks

-- and from when on it is free then
abbrev pub free_after : (occupancy free : ℕ) → List BusAsk → ℕ
free_after occupancy free [] = free
free_after occupancy free (x ∷ asks) = free_after occupancy (end_of occupancy (max x.stamp free)) asks
