-- Two asks in either order.
use Rattle.std.proofs.Common.{◌≡◌, ◌∙◌, ℕ, ◌≤◌, ◌&&◌, max, nat_lt, Bool, true, false, cond, List, [], ◌∷◌, None, refl, sym, ap, subst, arith}
use Rattle.std.specs.List.{filter}
use Rattle.std.proofs.lemmas.Bool.Decides.{nat_tests}
use Rattle.slack_base.specs.Stamps.{is_above}
use Rattle.slot_calendar.specs.declared.slots.Slot.{Slot}
use Rattle.slot_calendar.specs.Slots.{end_of, last_end, greatest_id, below, in_way, fit, grant_by, grant_in, with_slot}
use Rattle.slot_calendar.specs.Asks.{BusAsk, IsNext, clash_of, slot_of, with_ask}
use Rattle.slot_calendar.specs.Laws.{IsSwap, AllSwap, IsClosing, AllReopen}
use Rattle.slot_calendar.proofs.Ids.{above_back, above_trans}
use Rattle.slot_calendar.proofs.Lists.{each_weaker, filter_case, filter_all, filter_none}
use Rattle.slot_calendar.proofs.Orders.{each_with}

pub slot_case : (x s : Slot) (slots : List Slot) (R : List Slot → Type 0) → (is_above s.id x.id ≡ true → R (x ∷ s ∷ slots)) → (is_above s.id x.id ≡ false → R (s ∷ with_slot x slots)) → R (with_slot x (s ∷ slots))
slot_case x s slots R stops passes =
    elim (is_above s.id x.id) as (λ b. is_above s.id x.id ≡ b → R (cond b (x ∷ s ∷ slots) (s ∷ with_slot x slots))) [ true ↦ stops | false ↦ passes ] refl

pub slot_pass : (x s : Slot) (slots : List Slot) → is_above s.id x.id ≡ false → with_slot x (s ∷ slots) ≡ s ∷ with_slot x slots
slot_pass x s slots h = ap (λ b. cond b (x ∷ s ∷ slots) (s ∷ with_slot x slots)) h

pub slot_stop : (x s : Slot) (slots : List Slot) → is_above s.id x.id ≡ true → with_slot x (s ∷ slots) ≡ x ∷ s ∷ slots
slot_stop x s slots h = ap (λ b. cond b (x ∷ s ∷ slots) (s ∷ with_slot x slots)) h

-- two slots in either order
pub with_slot_comm : (x y : Slot) → is_above y.id x.id ≡ true → (slots : List Slot) → with_slot x (with_slot y slots) ≡ with_slot y (with_slot x slots)
with_slot_comm x y above [] = slot_stop x y [] above ∙ sym (slot_pass y x [] (above_back y.id x.id above))
with_slot_comm x y above (q ∷ slots) =
    slot_case y q slots (λ l. with_slot x l ≡ with_slot y (with_slot x (q ∷ slots)))
    (λ stops.
    slot_stop x y (q ∷ slots) above
    ∙ ap (λ l. x ∷ l) (sym (slot_stop y q slots stops))
    ∙ sym (slot_pass y x (q ∷ slots) (above_back y.id x.id above))
    ∙ ap (with_slot y) (sym (slot_stop x q slots (above_trans q.id y.id x.id stops above))))
    (λ passes. slot_case x q slots (λ l. with_slot x (q ∷ with_slot y slots) ≡ with_slot y l)
    (λ stops.
    slot_stop x q (with_slot y slots) stops
    ∙ ap (λ l. x ∷ l) (sym (slot_pass y q slots passes))
    ∙ sym (slot_pass y x (q ∷ slots) (above_back y.id x.id above)))
    (λ too.
    slot_pass x q (with_slot y slots) too
    ∙ ap (λ l. q ∷ l) (with_slot_comm x y above slots)
    ∙ sym (slot_pass y q (with_slot x slots) passes)))

-- a test that no slot passes with one more, is passed by none without it, nor by that one
pub none_greatest : (slots : List Slot) → greatest_id slots ≡ None → slots ≡ []
none_greatest [] e = refl
none_greatest (s ∷ slots) e = absurd (cc)

module _ (p : Slot → Bool) where
  filter_off : (s : Slot) (slots : List Slot) → filter p (s ∷ slots) ≡ [] → (p s ≡ false) × (filter p slots ≡ [])
  filter_off s slots = filter_case p s slots (λ l. l ≡ [] → (p s ≡ false) × (filter p slots ≡ [])) (λ on e. absurd (cc)) (λ off e. (off, e))

  filter_on : (s : Slot) (slots : List Slot) → p s ≡ false → filter p slots ≡ [] → filter p (s ∷ slots) ≡ []
  filter_on s slots off e = ap (λ b. cond b (s ∷ filter p slots) (filter p slots)) off ∙ e

  pub filter_with_slot : (s : Slot) (slots : List Slot) → filter p (with_slot s slots) ≡ [] → (p s ≡ false) × (filter p slots ≡ [])
  filter_with_slot s [] = filter_off s []
  filter_with_slot s (q ∷ slots) =
      slot_case s q slots (λ l. filter p l ≡ [] → (p s ≡ false) × (filter p (q ∷ slots) ≡ []))
      (λ _ e. filter_off s (q ∷ slots) e)
      (λ _ e.
      let here = filter_off q (with_slot s slots) e in
      let rest = filter_with_slot s slots here.1 in
      (rest.0, filter_on q slots here.0 rest.1))

  -- a slot that doesn't pass makes no difference
  pub filter_without : (s : Slot) → p s ≡ false → (slots : List Slot) → filter p (with_slot s slots) ≡ filter p slots
  filter_without s off [] = ap (λ b. cond b (s ∷ []) []) off
  filter_without s off (q ∷ slots) =
      slot_case s q slots (λ l. filter p l ≡ filter p (q ∷ slots))
      (λ _. ap (λ b. cond b (s ∷ filter p (q ∷ slots)) (filter p (q ∷ slots))) off)
      (λ _. ap (λ l. cond (p q) (q ∷ l) l) (filter_without s off slots))

pub both_off : (a b : Bool) → (a && b) ≡ false → a ≡ true → b ≡ false
both_off true b h e = h
both_off false b h e = absurd (cc)

pub not_below : (m n : ℕ) → nat_lt m n ≡ false → n ≤ m
not_below m n h = grind (arith, nat_tests)

max_swap : (a b c : ℕ) → max a (max b c) ≡ max b (max a c)
max_swap a b c = omega arith

module _ (occupancy free : ℕ) where
  pub last_end_with : (s : Slot) (slots : List Slot) → last_end occupancy free (with_slot s slots) ≡ max (end_of occupancy s.grant) (last_end occupancy free slots)
  last_end_with s [] = refl
  last_end_with s (q ∷ slots) =
      slot_case s q slots (λ l. last_end occupancy free l ≡ max (end_of occupancy s.grant) (last_end occupancy free (q ∷ slots)))
      (λ _. refl)
      (λ _. ap (max (end_of occupancy q.grant)) (last_end_with s slots) ∙ max_swap (end_of occupancy q.grant) (end_of occupancy s.grant) (last_end occupancy free slots))

  -- an ask above all slots
  module _ (x : BusAsk) (slots : List Slot) (next : IsNext x slots) where
    pub next_clash : clash_of occupancy free x slots ≡ None
    next_clash =
        let limit : ℕ = end_of occupancy (fit occupancy free x.stamp x.id slots) in
        ap greatest_id (filter_none (λ s. is_above s.id x.id && nat_lt s.grant limit) slots
        (each_weaker (λ s h. ap (λ b. b && nat_lt s.grant limit) (above_back x.id s.id h)) slots next))

    pub next_grant : grant_in occupancy free x.stamp x.id slots ≡ max x.stamp (last_end occupancy free slots)
    next_grant =
        ap (λ o. grant_by o occupancy free x.stamp x.id slots) next_clash
        ∙ ap (λ l. max x.stamp (last_end occupancy free l)) (filter_all (λ s. is_above x.id s.id) slots next)

  pub grant_free : (x : BusAsk) (slots : List Slot) → clash_of occupancy free x slots ≡ None → grant_in occupancy free x.stamp x.id slots ≡ fit occupancy free x.stamp x.id slots
  grant_free x slots e = ap (λ o. grant_by o occupancy free x.stamp x.id slots) e

  abbrev slot_at : BusAsk → ℕ → Slot
  slot_at x grant = record { id = x.id; grant = grant }

  slot_is : (x : BusAsk) (g h : ℕ) → g ≡ h → slot_at x g ≡ slot_at x h
  slot_is x g h e = ap (slot_at x) e

  pub swapped : (x y : BusAsk) (slots : List Slot) → is_above y.id x.id ≡ true → IsNext y slots → clash_of occupancy free x (with_ask occupancy free y slots) ≡ None → IsSwap occupancy free x y slots
  swapped x y slots above next none =
      let sx : Slot = slot_of occupancy free x slots in
      let sy : Slot = slot_of occupancy free y slots in
      let same_below : below x.id (with_slot sy slots) ≡ below x.id slots = filter_without (λ s. is_above x.id s.id) sy (above_back y.id x.id above) slots in
      let same_fit : fit occupancy free x.stamp x.id (with_slot sy slots) ≡ fit occupancy free x.stamp x.id slots = ap (λ l. max x.stamp (last_end occupancy free l)) same_below in
      let limit : ℕ = end_of occupancy (fit occupancy free x.stamp x.id slots) in
      let way : in_way limit x.id (with_slot sy slots) ≡ [] =
      ap (λ n. in_way (end_of occupancy n) x.id (with_slot sy slots)) (sym same_fit)
      ∙ none_greatest (in_way (end_of occupancy (fit occupancy free x.stamp x.id (with_slot sy slots))) x.id (with_slot sy slots)) none in
      let both = filter_with_slot (λ s. is_above s.id x.id && nat_lt s.grant limit) sy slots way in
      let late : limit ≤ sy.grant = not_below sy.grant limit (both_off (is_above y.id x.id) (nat_lt sy.grant limit) both.0 above) in
      let free_x : clash_of occupancy free x slots ≡ None = ap greatest_id both.1 in
      let x_is : sx.grant ≡ fit occupancy free x.stamp x.id slots = grant_free x slots free_x in
      let y_is : sy.grant ≡ max y.stamp (last_end occupancy free slots) = next_grant y slots next in
      let y_then : grant_in occupancy free y.stamp y.id (with_slot sx slots) ≡ max y.stamp (last_end occupancy free (with_slot sx slots)) =
      next_grant y (with_slot sx slots) (each_with (λ s. is_above y.id s.id ≡ true) sx slots above next) in
      let end_is : end_of occupancy sx.grant ≡ limit = ap (end_of occupancy) x_is in
      let same_x : slot_of occupancy free x (with_slot sy slots) ≡ sx =
      slot_is x (grant_in occupancy free x.stamp x.id (with_slot sy slots)) sx.grant (grant_free x (with_slot sy slots) none ∙ same_fit ∙ sym x_is) in
      let same_y : slot_of occupancy free y (with_slot sx slots) ≡ sy =
      slot_is y (grant_in occupancy free y.stamp y.id (with_slot sx slots)) sy.grant
      (y_then ∙ ap (max y.stamp) (last_end_with sx slots)
      ∙ ends y.stamp (end_of occupancy sx.grant) (last_end occupancy free slots) sy.grant y_is (subst (λ n. n ≤ sy.grant) (sym end_is) late)) in
      record {
        clash = free_x;
        slot_x = same_x;
        slot_y = same_y;
        both =
            ap (λ s. with_slot s (with_slot sy slots)) same_x
            ∙ with_slot_comm sx sy above slots
            ∙ ap (λ s. with_slot s (with_slot sx slots)) (sym same_y);
      }
    where
      ends : (t e l g : ℕ) → g ≡ max t l → e ≤ g → max t (max e l) ≡ g
      ends t e l g is low = omega arith

  pub closing : (x : BusAsk) (slots : List Slot) → IsNext x slots → IsClosing occupancy free x slots
  closing x slots next =
      let same : slot_of occupancy (last_end occupancy free slots) x [] ≡ slot_of occupancy free x slots =
      slot_is x (max x.stamp (last_end occupancy free slots)) (grant_in occupancy free x.stamp x.id slots) (sym (next_grant x slots next)) in
      record {
        clash = next_clash x slots next;
        slot = same;
        end =
            ap (λ (s : Slot). max (end_of occupancy s.grant) (last_end occupancy free slots)) same
            ∙ sym (last_end_with (slot_of occupancy free x slots) slots);
      }

pub all_swap : AllSwap
all_swap occupancy free x y slots above next none = swapped occupancy free x y slots above next none

pub all_reopen : AllReopen
all_reopen occupancy free x slots next = closing occupancy free x slots next
