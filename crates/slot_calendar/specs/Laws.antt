-- What is true of every calendar.
use Rattle.std.specs.Prelude.{◌≡◌, ◌≤◌, ℕ, IsTrue, List, [], ◌∷◌, ◌++◌, None, map}
use Rattle.std.specs.List.{AllByRecursion as Each}
use Rattle.slack_base.specs.declared.bounds.TheConstants.{TOP}
use Rattle.slack_base.specs.Stamps.{is_above}
use Rattle.slot_calendar.specs.declared.slots.Slot.{Slot}
use Rattle.slot_calendar.specs.Slots.{end_of, last_end, grant_in, with_slot}
use Rattle.slot_calendar.specs.Asks.{BusAsk, IsNext, AreRising, inserted, clash_of, slot_of, with_ask, served_all, given_all, clashes_all, in_turn, free_after}

module _ (occupancy free : ℕ) where
  -- two asks get the same slots in either order, and the first of them has no clash in either
  pub record IsSwap (x y : BusAsk) (slots : List Slot) : Type 0 where
    pub clash : clash_of occupancy free x slots ≡ None
    pub slot_x : slot_of occupancy free x (with_ask occupancy free y slots) ≡ slot_of occupancy free x slots
    pub slot_y : slot_of occupancy free y (with_ask occupancy free x slots) ≡ slot_of occupancy free y slots
    pub both : with_ask occupancy free x (with_ask occupancy free y slots) ≡ with_ask occupancy free y (with_ask occupancy free x slots)

  -- x, served after the others, is as if it had been served in its place: the slots are the same, and so each ask gets the
  -- slot that it had
  pub record IsAsInOrder (asks : List BusAsk) (x : BusAsk) : Type 0 where
    pub slots : served_all occupancy free (asks ++ x ∷ []) [] ≡ served_all occupancy free (inserted x asks) []
    pub given : given_all occupancy free (inserted x asks) [] ≡ with_slot (slot_of occupancy free x (served_all occupancy free asks [])) (given_all occupancy free asks [])

  -- the ask clashes with nothing, and sees nothing of a closing just before it
  pub record IsClosing (x : BusAsk) (slots : List Slot) : Type 0 where
    pub clash : clash_of occupancy free x slots ≡ None
    pub slot : slot_of occupancy (last_end occupancy free slots) x [] ≡ slot_of occupancy free x slots
    pub end : last_end occupancy (last_end occupancy free slots) (with_ask occupancy (last_end occupancy free slots) x []) ≡ last_end occupancy free (with_ask occupancy free x slots)

  -- what closing gives: closing again changes nothing of it, and it is no sooner than `free` and each end
  pub record IsEnd (slots : List Slot) : Type 0 where
    pub twice : last_end occupancy (last_end occupancy free slots) [] ≡ last_end occupancy free slots
    pub behind_free : free ≤ last_end occupancy free slots
    pub ends : Each (λ s. end_of occupancy s.grant ≤ last_end occupancy free slots) slots

  -- the grant of an ask: no sooner than its stamp, `free`, and the end of each slot of a lower id
  pub record IsGrant (x : BusAsk) (slots : List Slot) : Type 0 where
    pub stamp : x.stamp ≤ grant_in occupancy free x.stamp x.id slots
    pub behind_free : free ≤ grant_in occupancy free x.stamp x.id slots
    pub below : Each (λ s. IsTrue (is_above x.id s.id) → end_of occupancy s.grant ≤ grant_in occupancy free x.stamp x.id slots) slots
    -- without a clash it is done with the bus before each of a greater id begins
    pub above : clash_of occupancy free x slots ≡ None → Each (λ s. IsTrue (is_above s.id x.id) → end_of occupancy (grant_in occupancy free x.stamp x.id slots) ≤ s.grant) slots

  -- asks that come in order: no clashes, and what a bus without a calendar does
  pub record IsInTurn (asks : List BusAsk) : Type 0 where
    pub clashes : clashes_all occupancy free asks [] ≡ map (λ x. None) asks
    pub given : given_all occupancy free asks [] ≡ in_turn occupancy free asks
    pub slots : served_all occupancy free asks [] ≡ in_turn occupancy free asks
    pub end : last_end occupancy free (served_all occupancy free asks []) ≡ free_after occupancy free asks

-- x has the lower id, y one above all slots, and x doesn't clash behind y
abbrev pub AllSwap : Type 0
AllSwap =
    (occupancy free : ℕ) (x y : BusAsk) (slots : List Slot)
    → IsTrue (is_above y.id x.id) → IsNext y slots → clash_of occupancy free x (with_ask occupancy free y slots) ≡ None → IsSwap occupancy free x y slots

abbrev pub AllCommute : Type 0
AllCommute =
    (occupancy free : ℕ) (asks : List BusAsk) (x : BusAsk)
    → AreRising asks → clash_of occupancy free x (served_all occupancy free asks []) ≡ None → IsAsInOrder occupancy free asks x

abbrev pub AllReopen : Type 0
AllReopen = (occupancy free : ℕ) (x : BusAsk) (slots : List Slot) → IsNext x slots → IsClosing occupancy free x slots

abbrev pub AllEnds : Type 0
AllEnds = (occupancy free : ℕ) (slots : List Slot) → IsEnd occupancy free slots

abbrev pub AllGrants : Type 0
AllGrants = (occupancy free : ℕ) (x : BusAsk) (slots : List Slot) → IsGrant occupancy free x slots

abbrev pub AllInTurn : Type 0
AllInTurn = (occupancy free : ℕ) (asks : List BusAsk) → free ≤ TOP → AreRising asks → IsInTurn occupancy free asks
