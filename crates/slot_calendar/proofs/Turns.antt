-- Ends and grants, and asks that come in the order of their ids.
use Rattle.std.proofs.Common.{◌≡◌, ◌∙◌, ℕ, ◌≤◌, ◌&&◌, max, nat_lt, true, List, [], ◌∷◌, ◌++◌, Option, None, Some, map, refl, sym, ap, subst, arith, append_assoc, append-nil}
use Rattle.std.specs.List.{AllByRecursion as Each}
use Rattle.slack_base.specs.declared.bounds.TheConstants.{TOP}
use Rattle.slack_base.specs.declared.stamps.Id.{Id}
use Rattle.slack_base.specs.Stamps.{is_above}
use Rattle.slot_calendar.specs.declared.slots.Slot.{Slot}
use Rattle.slot_calendar.specs.Slots.{end_of, last_end, below, in_way, fit, grant_by, grant_in, with_slot}
use Rattle.slot_calendar.specs.Asks.{BusAsk, IsNext, AreRising, clash_of, slot_of, with_ask, served_all, given_all, clashes_all, in_turn, free_after}
use Rattle.slot_calendar.specs.Laws.{IsEnd, IsGrant, AllEnds, AllGrants, AllInTurn}
use Rattle.slot_calendar.proofs.Ends.{last_end_top}
use Rattle.slot_calendar.proofs.Ids.{above_back}
use Rattle.slot_calendar.proofs.Lists.{each_weaker, each_passed, each_off}
use Rattle.slot_calendar.proofs.Commuting.{AreNext, none_yet, next_more}
use Rattle.slot_calendar.proofs.Swaps.{none_greatest, both_off, not_below, grant_free, last_end_with, next_clash, next_grant, slot_pass}

module _ (occupancy free : ℕ) where
  free_first : (slots : List Slot) → free ≤ last_end occupancy free slots
  free_first [] = omega arith
  free_first (s ∷ slots) = let rest = free_first slots in omega arith

  all_end : (slots : List Slot) → Each (λ s. end_of occupancy s.grant ≤ last_end occupancy free slots) slots
  all_end [] = tt
  all_end (s ∷ slots) = (
    left (end_of occupancy s.grant) (last_end occupancy free slots),
    each_weaker (λ q h. right (end_of occupancy q.grant) (end_of occupancy s.grant) (last_end occupancy free slots) h) slots (all_end slots),
  )
    where
      left : (a b : ℕ) → a ≤ max a b
      left a b = omega arith

      right : (n a b : ℕ) → n ≤ b → n ≤ max a b
      right n a b h = omega arith

  ends : (slots : List Slot) → IsEnd occupancy free slots
  ends slots = record { twice = refl; behind_free = free_first slots; ends = all_end slots }

  -- a grant, by the clash
  module _ (x : BusAsk) (slots : List Slot) where
    abbrev grant : Option Id → ℕ
    grant high = grant_by high occupancy free x.stamp x.id slots

    stamp_first : (high : Option Id) → x.stamp ≤ grant high
    stamp_first None = omega arith
    stamp_first (Some high) = omega arith

    free_before : (high : Option Id) → free ≤ grant high
    free_before None = let h = free_first (below x.id slots) in omega arith
    free_before (Some high) = let h = free_first slots in omega arith

    late : (n l : ℕ) → n ≤ l → n ≤ max x.stamp l
    late n l h = omega arith

    lower_before : (high : Option Id) → Each (λ s. is_above x.id s.id ≡ true → end_of occupancy s.grant ≤ grant high) slots
    lower_before None =
        each_passed (λ s. is_above x.id s.id) (λ s. end_of occupancy s.grant ≤ grant None) slots
        (each_weaker (λ s h. late (end_of occupancy s.grant) (last_end occupancy free (below x.id slots)) h) (below x.id slots) (all_end (below x.id slots)))
    lower_before (Some high) = each_weaker (λ s h _. late (end_of occupancy s.grant) (last_end occupancy free slots) h) slots (all_end slots)

    higher_behind : clash_of occupancy free x slots ≡ None → Each (λ s. is_above s.id x.id ≡ true → end_of occupancy (grant_in occupancy free x.stamp x.id slots) ≤ s.grant) slots
    higher_behind none =
        let limit : ℕ = end_of occupancy (fit occupancy free x.stamp x.id slots) in
        let off = each_off (λ s. is_above s.id x.id && nat_lt s.grant limit) slots (none_greatest (in_way limit x.id slots) none) in
        each_weaker
        (λ s h above. subst (λ n. end_of occupancy n ≤ s.grant) (sym (grant_free occupancy free x slots none)) (not_below s.grant limit (both_off (is_above s.id x.id) (nat_lt s.grant limit) h above)))
        slots off

    grants : IsGrant occupancy free x slots
    grants = record {
      stamp = stamp_first (clash_of occupancy free x slots);
      behind_free = free_before (clash_of occupancy free x slots);
      below = lower_before (clash_of occupancy free x slots);
      above = higher_behind;
    }

  -- asks that come in order
  module _ (top : free ≤ TOP) where
    -- the new slot ends behind all others
    end_behind : (t l : ℕ) → l ≤ TOP → max (end_of occupancy (max t l)) l ≡ end_of occupancy (max t l)
    end_behind t l h = omega arith

    end_more : (x : BusAsk) (slots : List Slot) → IsNext x slots → last_end occupancy free (with_ask occupancy free x slots) ≡ end_of occupancy (max x.stamp (last_end occupancy free slots))
    end_more x slots next =
        last_end_with occupancy free (slot_of occupancy free x slots) slots
        ∙ ap (λ n. max (end_of occupancy n) (last_end occupancy free slots)) (next_grant occupancy free x slots next)
        ∙ end_behind x.stamp (last_end occupancy free slots) (last_end_top occupancy free slots top)

    slot_behind : (s : Slot) (slots : List Slot) → Each (λ q. is_above s.id q.id ≡ true) slots → with_slot s slots ≡ slots ++ s ∷ []
    slot_behind s [] h = refl
    slot_behind s (q ∷ slots) h = slot_pass s q slots (above_back s.id q.id h.0) ∙ ap (λ l. q ∷ l) (slot_behind s slots h.1)

    record AreInTurn (asks : List BusAsk) (slots : List Slot) : Type 0 where
      clashes : clashes_all occupancy free asks slots ≡ map (λ x. None) asks
      given : given_all occupancy free asks slots ≡ in_turn occupancy (last_end occupancy free slots) asks
      after : served_all occupancy free asks slots ≡ slots ++ in_turn occupancy (last_end occupancy free slots) asks
      end : last_end occupancy free (served_all occupancy free asks slots) ≡ free_after occupancy (last_end occupancy free slots) asks

    turns : (asks : List BusAsk) (slots : List Slot) → AreRising asks → AreNext asks slots → AreInTurn asks slots
    turns [] slots rising next = record { clashes = refl; given = refl; after = sym (append-nil slots); end = refl }
    turns (x ∷ asks) slots rising next =
        let s : Slot = slot_of occupancy free x slots in
        let now : List Slot = with_ask occupancy free x slots in
        let rest : AreInTurn asks now = turns asks now rising.1 (next_more s slots asks next.1 rising.0) in
        let free_now : last_end occupancy free now ≡ end_of occupancy (max x.stamp (last_end occupancy free slots)) = end_more x slots next.0 in
        let s_is : s ≡ record { id = x.id; grant = max x.stamp (last_end occupancy free slots) } = ap (λ n. record { id = x.id; grant = n }) (next_grant occupancy free x slots next.0) in
        let given : given_all occupancy free (x ∷ asks) slots ≡ in_turn occupancy (last_end occupancy free slots) (x ∷ asks) =
        ap (λ l. s ∷ l) (rest.given ∙ ap (λ n. in_turn occupancy n asks) free_now)
        ∙ ap (λ (q : Slot). q ∷ in_turn occupancy (end_of occupancy (max x.stamp (last_end occupancy free slots))) asks) s_is in
        record {
          clashes = ap (λ o. o ∷ clashes_all occupancy free asks now) (next_clash occupancy free x slots next.0) ∙ ap (λ l. None ∷ l) rest.clashes;
          given = given;
          after =
              rest.after
              ∙ ap (λ l. l ++ in_turn occupancy (last_end occupancy free now) asks) (slot_behind s slots next.0)
              ∙ append_assoc slots (s ∷ []) (in_turn occupancy (last_end occupancy free now) asks)
              ∙ ap (λ l. slots ++ l) (ap (λ l. s ∷ l) (sym rest.given) ∙ given);
          end = rest.end ∙ ap (λ n. free_after occupancy n asks) free_now;
        }

pub all_ends : AllEnds
all_ends occupancy free slots = ends occupancy free slots

pub all_grants : AllGrants
all_grants occupancy free x slots = grants occupancy free x slots

pub all_in_turn : AllInTurn
all_in_turn occupancy free asks top rising =
    let turn = turns occupancy free top asks [] rising (none_yet asks) in
    record { clashes = turn.clashes; given = turn.given; slots = turn.after; end = turn.end }
