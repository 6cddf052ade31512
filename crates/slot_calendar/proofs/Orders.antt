-- Slots and entries in the order of their ids.
use Rattle.std.proofs.Common.{◌≡◌, ◌∙◌, ℕ, ◌-◌, ◌<◌, ◌≤◌, ◌&&◌, zero, suc, nat_lt, Bool, true, false, cond, List, [], ◌∷◌, ◌++◌, length, get_or, take, drop, map, Some, refl, sym, ap, subst, arith, take-append-drop, append-nil}
use Rattle.std.specs.List.{filter, AllByRecursion as Each}
use Rattle.std.proofs.lemmas.List.{map-append}
use Rattle.std.proofs.lemmas.List.Elements.{filter-append}
use Rattle.slack_base.specs.declared.stamps.Id.{Id}
use Rattle.slack_base.specs.HighestIds.{later_of}
use Rattle.slack_base.specs.Stamps.{is_above}
use Rattle.slot_calendar.specs.declared.entries.Entry.{Entry}
use Rattle.slot_calendar.specs.declared.slots.Slot.{Slot}
use Rattle.slot_calendar.specs.Slots.{IsInOrder, greatest_id, below, in_way, with_slot}
use Rattle.slot_calendar.specs.Entries.{slots_of, IsPlace}
use Rattle.slot_calendar.proofs.Ids.{up_to, above_self, above_back, above_low, same_id}
use Rattle.slot_calendar.proofs.Lists.{each_weaker, each_take, each_at, filter_case, filter-yes, filter_all, filter_none, filter_same}

-- facts of slots and of entries
pub slots_each : (P : Slot → Type 0) (entries : List Entry) → Each (λ e. P e.slot) entries → Each P (slots_of entries)
slots_each P [] h = tt
slots_each P (e ∷ entries) h = (h.0, slots_each P entries h.1)

pub entries_each : (P : Slot → Type 0) (entries : List Entry) → Each P (slots_of entries) → Each (λ e. P e.slot) entries
entries_each P [] h = tt
entries_each P (e ∷ entries) h = (h.0, entries_each P entries h.1)

pub slots-append : (xs ys : List Entry) → slots_of (xs ++ ys) ≡ slots_of xs ++ slots_of ys
slots-append xs ys = map-append (λ (e : Entry). e.slot) xs ys

pub slots-split : (n : ℕ) (entries : List Entry) → slots_of entries ≡ slots_of (take n entries) ++ slots_of (drop n entries)
slots-split n entries = ap slots_of (sym (take-append-drop n entries)) ∙ slots-append (take n entries) (drop n entries)

pub slots-map : (f : Entry → Entry) → ((e : Entry) → (f e).slot ≡ e.slot) → (entries : List Entry) → slots_of (map f entries) ≡ slots_of entries
slots-map f same [] = refl
slots-map f same (e ∷ entries) = ap (λ s. s ∷ slots_of (map f entries)) (same e) ∙ ap (λ slots. e.slot ∷ slots) (slots-map f same entries)

-- parts of what is in order
pub in_order_take : (n : ℕ) (entries : List Entry) → IsInOrder (slots_of entries) → IsInOrder (slots_of (take n entries))
in_order_take zero entries h = tt
in_order_take (suc n) [] h = tt
in_order_take (suc n) (e ∷ entries) h = (
  slots_each (λ q. is_above e.slot.id q.id ≡ false) (take n entries)
      (each_take (λ q. is_above e.slot.id q.slot.id ≡ false) n entries (entries_each (λ q. is_above e.slot.id q.id ≡ false) entries h.0)),
  in_order_take n entries h.1,
)

pub in_order_drop : (n : ℕ) (entries : List Entry) → IsInOrder (slots_of entries) → IsInOrder (slots_of (drop n entries))
in_order_drop zero entries h = h
in_order_drop (suc n) [] h = tt
in_order_drop (suc n) (e ∷ entries) h = in_order_drop n entries h.1

pub in_order_at : (entries : List Entry) (i j : ℕ) (d : Entry) → IsInOrder (slots_of entries) → i ≤ j → j < length entries → is_above (get_or entries i d).slot.id (get_or entries j d).slot.id ≡ false
in_order_at [] i j d o le l = absurd (omega arith)
in_order_at (q ∷ entries) zero zero d o le l = above_self q.slot.id
in_order_at (q ∷ entries) zero (suc j) d o le l =
    each_at (λ r. is_above q.slot.id r.slot.id ≡ false) entries j d (omega arith) (entries_each (λ r. is_above q.slot.id r.id ≡ false) entries o.0)
in_order_at (q ∷ entries) (suc i) zero d o le l = absurd (omega arith)
in_order_at (q ∷ entries) (suc i) (suc j) d o le l = in_order_at entries i j d o.1 (omega arith) (omega arith)

-- up to an entry none has an id above its own
pub none_above_it : (entries : List Entry) (n : ℕ) (d : Entry) → IsInOrder (slots_of entries) → n < length entries
    → Each (λ q. is_above q.slot.id (get_or entries n d).slot.id ≡ false) (take (suc n) entries)
none_above_it [] n d o l = absurd (omega arith)
none_above_it (q ∷ entries) zero d o l = (above_self q.slot.id, tt)
none_above_it (q ∷ entries) (suc n) d o l = (
  each_at (λ r. is_above q.slot.id r.slot.id ≡ false) entries n d (omega arith) (entries_each (λ r. is_above q.slot.id r.id ≡ false) entries o.0),
  none_above_it entries n d o.1 (omega arith),
)

-- the greatest id of what passes a test is that of the last that passes
pub greatest_is_last : (p : Slot → Bool) (entries : List Entry) (n : ℕ) (d : Entry) → IsInOrder (slots_of entries) → n < length entries → p (get_or entries n d).slot ≡ true
    → Each (λ q. p q.slot ≡ false) (drop (suc n) entries) → greatest_id (filter p (slots_of entries)) ≡ Some (get_or entries n d).slot.id
greatest_is_last p [] n d o l on off = absurd (omega arith)
greatest_is_last p (q ∷ entries) zero d o l on off =
    ap greatest_id (filter-yes p q.slot (slots_of entries) on)
    ∙ ap (λ (slots : List Slot). Some (later_of (greatest_id slots) q.slot.id)) (filter_none p (slots_of entries) (slots_each (λ s. p s ≡ false) entries off))
greatest_is_last p (q ∷ entries) (suc n) d o l on off =
    let e : Entry = get_or entries n d in
    let rest : greatest_id (filter p (slots_of entries)) ≡ Some e.slot.id = greatest_is_last p entries n d o.1 (omega arith) on off in
    let low : is_above q.slot.id e.slot.id ≡ false =
    each_at (λ r. is_above q.slot.id r.slot.id ≡ false) entries n d (omega arith) (entries_each (λ r. is_above q.slot.id r.id ≡ false) entries o.0) in
    filter_case p q.slot (slots_of entries) (λ slots. greatest_id slots ≡ Some e.slot.id)
    (λ _. ap (λ o. Some (later_of o q.slot.id)) rest
    ∙ elim (is_above e.slot.id q.slot.id) as (λ b. is_above e.slot.id q.slot.id ≡ b → Some (cond b e.slot.id q.slot.id) ≡ Some e.slot.id) [
      | true ↦ λ _. refl
      | false ↦ λ h. ap Some (same_id q.slot.id e.slot.id low h)
    ] refl)
    (λ _. rest)

-- around the place of an id
module _ (x : Id) (n : ℕ) (entries : List Entry) (at : IsPlace x n entries) where
  high_slots : Each (λ s. is_above s.id x ≡ true) (slots_of (drop n entries))
  high_slots = slots_each (λ s. is_above s.id x ≡ true) (drop n entries) at.high

  low_slots : Each (λ s. is_above s.id x ≡ false) (slots_of (take n entries))
  low_slots = slots_each (λ s. is_above s.id x ≡ false) (take n entries) at.low

  -- all slots of lower ids stand before it
  pub below_before : below x (slots_of entries) ≡ below x (slots_of (take n entries))
  below_before =
      ap (below x) (slots-split n entries)
      ∙ filter-append (λ (s : Slot). is_above x s.id) (slots_of (take n entries)) (slots_of (drop n entries))
      ∙ ap (λ slots. below x (slots_of (take n entries)) ++ slots)
      (filter_none (λ s. is_above x s.id) (slots_of (drop n entries)) (each_weaker (λ s h. above_back s.id x h) (slots_of (drop n entries)) high_slots))
      ∙ append-nil (below x (slots_of (take n entries)))

  -- and all of higher ids behind it
  pub in_way_behind : (limit : ℕ) → in_way limit x (slots_of entries) ≡ filter (λ s. nat_lt s.grant limit) (slots_of (drop n entries))
  in_way_behind limit =
      ap (in_way limit x) (slots-split n entries)
      ∙ filter-append (λ (s : Slot). is_above s.id x && nat_lt s.grant limit) (slots_of (take n entries)) (slots_of (drop n entries))
      ∙ ap (λ slots. slots ++ in_way limit x (slots_of (drop n entries)))
      (filter_none (λ s. is_above s.id x && nat_lt s.grant limit) (slots_of (take n entries))
      (each_weaker (λ s h. ap (λ b. b && nat_lt s.grant limit) h) (slots_of (take n entries)) low_slots))
      ∙ filter_same (λ s. is_above s.id x && nat_lt s.grant limit) (λ s. nat_lt s.grant limit) (slots_of (drop n entries))
      (each_weaker (λ s h. ap (λ b. b && nat_lt s.grant limit) h) (slots_of (drop n entries)) high_slots)

-- the slots below an id, counted from behind
none_below : (x : Id) (entries : List Entry) → Each (λ e. is_above x e.slot.id ≡ false) entries → below x (slots_of entries) ≡ []
none_below x entries h = filter_none (λ s. is_above x s.id) (slots_of entries) (slots_each (λ s. is_above x s.id ≡ false) entries h)

below_split : (x : Id) (entries : List Entry) (n : ℕ) → Each (λ e. is_above x e.slot.id ≡ true) (take n entries) → Each (λ e. is_above x e.slot.id ≡ false) (drop n entries)
    → below x (slots_of entries) ≡ slots_of (take n entries)
below_split x entries n low high =
    ap (below x) (slots-split n entries)
    ∙ filter-append (λ (s : Slot). is_above x s.id) (slots_of (take n entries)) (slots_of (drop n entries))
    ∙ ap (λ slots. below x (slots_of (take n entries)) ++ slots) (none_below x (drop n entries) high)
    ∙ append-nil (below x (slots_of (take n entries)))
    ∙ filter_all (λ s. is_above x s.id) (slots_of (take n entries)) (slots_each (λ s. is_above x s.id ≡ true) (take n entries) low)

pub below_is : (x : Id) (entries : List Entry) (n : ℕ) (d : Entry) → IsInOrder (slots_of entries) → 0 < n → n ≤ length entries → is_above x (get_or entries (n - 1) d).slot.id ≡ true
    → Each (λ e. is_above x e.slot.id ≡ false) (drop n entries) → below x (slots_of entries) ≡ slots_of (take n entries)
below_is x entries n d o some within low high =
    below_split x entries n
    (subst (λ k. Each (λ e. is_above x e.slot.id ≡ true) (take k entries)) last
    (each_weaker (λ e h. above_low x (get_or entries (n - 1) d).slot.id e.slot.id low h) (take (suc (n - 1)) entries) (none_above_it entries (n - 1) d o (omega arith)))) high
  where
    last : suc (n - 1) ≡ n
    last = omega arith

pub below_none : (x : Id) (entries : List Entry) (n : ℕ) → n ≤ 0 → Each (λ e. is_above x e.slot.id ≡ false) (drop n entries) → below x (slots_of entries) ≡ slots_of (take n entries)
below_none x entries n none high =
    let zero_is : 0 ≡ n = omega arith in
    subst (λ k. Each (λ e. is_above x e.slot.id ≡ false) (drop k entries) → below x (slots_of entries) ≡ slots_of (take k entries)) zero_is (none_below x entries) high

-- a slot in its place
with_slot_at : (x : Slot) (slots : List Slot) (later : List Slot) → Each (λ s. is_above s.id x.id ≡ false) slots → Each (λ s. is_above s.id x.id ≡ true) later
    → with_slot x (slots ++ later) ≡ slots ++ x ∷ later
with_slot_at x [] [] low high = refl
with_slot_at x [] (s ∷ later) low high = ap (λ b. cond b (x ∷ s ∷ later) (s ∷ with_slot x later)) high.0
with_slot_at x (s ∷ slots) later low high =
    ap (λ b. cond b (x ∷ s ∷ (slots ++ later)) (s ∷ with_slot x (slots ++ later))) low.0 ∙ ap (λ slots. s ∷ slots) (with_slot_at x slots later low.1 high)

pub with_slot_in : (x : Slot) (n : ℕ) (entries : List Entry) → IsPlace x.id n entries → with_slot x (slots_of entries) ≡ slots_of (take n entries) ++ x ∷ slots_of (drop n entries)
with_slot_in x n entries at =
    ap (with_slot x) (slots-split n entries) ∙ with_slot_at x (slots_of (take n entries)) (slots_of (drop n entries)) (low_slots x.id n entries at) (high_slots x.id n entries at)

pub each_with : (P : Slot → Type 0) (x : Slot) (slots : List Slot) → P x → Each P slots → Each P (with_slot x slots)
each_with P x [] h all = (h, tt)
each_with P x (s ∷ slots) h all =
    elim (is_above s.id x.id) as (λ b. Each P (cond b (x ∷ s ∷ slots) (s ∷ with_slot x slots))) [
      | true ↦ (h, (all.0, all.1))
      | false ↦ (all.0, each_with P x slots h all.1)
    ]

-- the slots stay in order
pub in_order-with_slot : (x : Slot) (slots : List Slot) → IsInOrder slots → IsInOrder (with_slot x slots)
in_order-with_slot x [] o = (tt, tt)
in_order-with_slot x (s ∷ slots) o =
    elim (is_above s.id x.id) as (λ b. is_above s.id x.id ≡ b → IsInOrder (cond b (x ∷ s ∷ slots) (s ∷ with_slot x slots))) [
      | true ↦ λ h. let back = above_back s.id x.id h in
          ((back, each_weaker (λ q low. up_to x.id s.id q.id back low) slots o.0), o)
      | false ↦ λ h. (each_with (λ q. is_above s.id q.id ≡ false) x slots h o.0, in_order-with_slot x slots o.1)
    ] refl
