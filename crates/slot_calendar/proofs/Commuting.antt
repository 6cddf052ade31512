-- An ask that comes late and doesn't clash may as well come in its place.
use Rattle.std.proofs.Common.{◌≡◌, ◌∙◌, ℕ, true, false, cond, List, [], ◌∷◌, ◌++◌, None, refl, sym, ap}
use Rattle.std.specs.List.{AllByRecursion as Each}
use Rattle.slack_base.specs.Stamps.{is_above}
use Rattle.slot_calendar.specs.declared.slots.Slot.{Slot}
use Rattle.slot_calendar.specs.Slots.{with_slot}
use Rattle.slot_calendar.specs.Asks.{BusAsk, IsNext, AreRising, inserted, clash_of, slot_of, with_ask, served_all, given_all}
use Rattle.slot_calendar.specs.Laws.{AllCommute}
use Rattle.slot_calendar.proofs.Ids.{above_trans}
use Rattle.slot_calendar.proofs.Lists.{each_weaker}
use Rattle.slot_calendar.proofs.Orders.{each_with}
use Rattle.slot_calendar.proofs.Swaps.{slot_pass, slot_stop, swapped}

-- slots of ids below those of asks
abbrev pub AreNext : List BusAsk → List Slot → Type 0
AreNext asks slots = Each (λ y. IsNext y slots) asks

pub none_yet : (asks : List BusAsk) → AreNext asks []
none_yet [] = tt
none_yet (x ∷ asks) = (tt, none_yet asks)

pub next_more : (s : Slot) (slots : List Slot) (asks : List BusAsk) → AreNext asks slots → Each (λ y. is_above y.id s.id ≡ true) asks → AreNext asks (with_slot s slots)
next_more s slots [] h k = tt
next_more s slots (y ∷ asks) h k = (each_with (λ q. is_above y.id q.id ≡ true) s slots k.0 h.0, next_more s slots asks h.1 k.1)

insert_case : (x y : BusAsk) (asks : List BusAsk) (R : List BusAsk → Type 0) → (is_above y.id x.id ≡ true → R (x ∷ y ∷ asks)) → (is_above y.id x.id ≡ false → R (y ∷ inserted x asks)) → R (inserted x (y ∷ asks))
insert_case x y asks R stops passes =
    elim (is_above y.id x.id) as (λ b. is_above y.id x.id ≡ b → R (cond b (x ∷ y ∷ asks) (y ∷ inserted x asks))) [ true ↦ stops | false ↦ passes ] refl

module _ (occupancy free : ℕ) where
  pub served_all-append : (asks : List BusAsk) (x : BusAsk) (slots : List Slot) → served_all occupancy free (asks ++ x ∷ []) slots ≡ with_ask occupancy free x (served_all occupancy free asks slots)
  served_all-append [] x slots = refl
  served_all-append (y ∷ asks) x slots = served_all-append asks x (with_ask occupancy free y slots)

  -- x after asks of greater ids, and before them
  record IsMoved (asks : List BusAsk) (x : BusAsk) (slots : List Slot) : Type 0 where
    clash : clash_of occupancy free x slots ≡ None
    after : with_ask occupancy free x (served_all occupancy free asks slots) ≡ served_all occupancy free asks (with_ask occupancy free x slots)
    slot : slot_of occupancy free x (served_all occupancy free asks slots) ≡ slot_of occupancy free x slots
    given : given_all occupancy free asks (with_ask occupancy free x slots) ≡ given_all occupancy free asks slots

  moves : (asks : List BusAsk) (x : BusAsk) (slots : List Slot) → AreRising asks → Each (λ y. is_above y.id x.id ≡ true) asks → AreNext asks slots
      → clash_of occupancy free x (served_all occupancy free asks slots) ≡ None → IsMoved asks x slots
  moves [] x slots rising above next none = record { clash = none; after = refl; slot = refl; given = refl }
  moves (y ∷ asks) x slots rising above next none =
      let now : List Slot = with_ask occupancy free y slots in
      let rest : IsMoved asks x now = moves asks x now rising.1 above.1 (next_more (slot_of occupancy free y slots) slots asks next.1 rising.0) none in
      let swap = swapped occupancy free x y slots above.0 next.0 rest.clash in
      record {
        clash = swap.clash;
        after = rest.after ∙ ap (served_all occupancy free asks) swap.both;
        slot = rest.slot ∙ swap.slot_x;
        given =
            ap (λ s. s ∷ given_all occupancy free asks (with_ask occupancy free y (with_ask occupancy free x slots))) swap.slot_y
            ∙ ap (λ l. slot_of occupancy free y slots ∷ given_all occupancy free asks l) (sym swap.both)
            ∙ ap (λ l. slot_of occupancy free y slots ∷ l) rest.given;
      }

  -- x after asks, and in its place
  record IsLike (asks : List BusAsk) (x : BusAsk) (slots : List Slot) (others : List BusAsk) : Type 0 where
    after : with_ask occupancy free x (served_all occupancy free asks slots) ≡ served_all occupancy free others slots
    given : given_all occupancy free others slots ≡ with_slot (slot_of occupancy free x (served_all occupancy free asks slots)) (given_all occupancy free asks slots)

  inserts : (asks : List BusAsk) (x : BusAsk) (slots : List Slot) → AreRising asks → AreNext asks slots → clash_of occupancy free x (served_all occupancy free asks slots) ≡ None
      → IsLike asks x slots (inserted x asks)
  inserts [] x slots rising next none = record { after = refl; given = refl }
  inserts (y ∷ asks) x slots rising next none =
      insert_case x y asks (IsLike (y ∷ asks) x slots)
      (λ stops.
      let above : Each (λ z. is_above z.id x.id ≡ true) (y ∷ asks) = (stops, each_weaker (λ z k. above_trans z.id y.id x.id k stops) asks rising.0) in
      let moved = moves (y ∷ asks) x slots rising above next none in
      record {
        after = moved.after;
        given =
            ap (λ l. slot_of occupancy free x slots ∷ l) moved.given
            ∙ sym (slot_stop (slot_of occupancy free x slots) (slot_of occupancy free y slots) (given_all occupancy free asks (with_ask occupancy free y slots)) stops)
            ∙ ap (λ s. with_slot s (given_all occupancy free (y ∷ asks) slots)) (sym moved.slot);
      })
      (λ passes.
      let now : List Slot = with_ask occupancy free y slots in
      let rest = inserts asks x now rising.1 (next_more (slot_of occupancy free y slots) slots asks next.1 rising.0) none in
      record {
        after = rest.after;
        given =
            ap (λ l. slot_of occupancy free y slots ∷ l) rest.given
            ∙ sym (slot_pass (slot_of occupancy free x (served_all occupancy free asks now)) (slot_of occupancy free y slots) (given_all occupancy free asks now) passes);
      })

pub all_commute : AllCommute
all_commute occupancy free asks x rising none =
    let like = inserts occupancy free asks x [] rising (none_yet asks) none in
    record { slots = served_all-append occupancy free asks x [] ∙ like.after; given = like.given }
