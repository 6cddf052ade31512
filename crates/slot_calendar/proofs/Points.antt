-- Places where a test of entries begins to fail.
use Rattle.std.proofs.Common.{◌≡◌, ◌∙◌, ℕ, ◌<◌, ◌≤◌, zero, suc, min, max, not, nat_lt, ◌-◌, slice_get, Bool, true, false, List, [], ◌∷◌, length, get_or, take, drop, Some, None, refl, sym, ap, subst, arith}
use Rattle.std.specs.List.{filter, AllWithin, AllByRecursion as Each}
use Rattle.std.specs.List.Sorted.{IsPartitionedBy}
use Rattle.std.proofs.lemmas.Bool.Decides.{nat_tests}
use Rattle.slack_base.specs.declared.stamps.Id.{Id}
use Rattle.slack_base.specs.Stamps.{is_above}
use Rattle.slot_calendar.specs.declared.entries.Entry.{Entry}
use Rattle.slot_calendar.specs.Slots.{IsInOrder, greatest_id}
use Rattle.slot_calendar.specs.Entries.{slots_of, earliest_of, AreRunning, AreComing, AreClimbing, IsPlace}
use Rattle.slot_calendar.proofs.Ids.{up_to, above_back, above_low}
use Rattle.slot_calendar.proofs.Lists.{each_weaker, each_at, each_at_front, each_take, each_drop, each_past, filter_none}
use Rattle.slot_calendar.specs.declared.slots.Slot.{Slot}
use Rattle.slot_calendar.proofs.Orders.{in_order_at, slots_each, entries_each, greatest_is_last}

-- facts by places
module _ {X : Type 0} (P : X → Type 0) where
  pub each_front : (xs : List X) (n : ℕ) → AllWithin P xs 0 n → n ≤ length xs → Each P (take n xs)
  each_front xs zero h l = tt
  each_front [] (suc n) h l = tt
  each_front (x ∷ xs) (suc n) h l = (h 0 x (omega arith) (omega arith), each_front xs n (λ k d a b. h (suc k) d (omega arith) (omega arith)) (omega arith))

  pub each_back : (xs : List X) (n : ℕ) → AllWithin P xs n (length xs) → Each P (drop n xs)
  each_back [] zero h = tt
  each_back [] (suc n) h = tt
  each_back (x ∷ xs) zero h = (h 0 x (omega arith) (omega arith), each_back xs zero (λ k d a b. h (suc k) d (omega arith) (omega arith)))
  each_back (x ∷ xs) (suc n) h = each_back xs n (λ k d a b. h (suc k) d (omega arith) (omega arith))

-- by ids
pub parted_by_id : (x : Id) (entries : List Entry) → IsInOrder (slots_of entries) → IsPartitionedBy (λ e. not (is_above e.slot.id x)) entries
parted_by_id x entries o i j d le l on =
    ap not (up_to (get_or entries i d).slot.id (get_or entries j d).slot.id x (in_order_at entries i j d o le l) (off_of (is_above (get_or entries j d).slot.id x) on))
  where
    off_of : (b : Bool) → not b ≡ true → b ≡ false
    off_of true h = sym h
    off_of false h = refl

-- where the last has no id above this one, none has
last_low : (x : Id) (entries : List Entry) (e : Entry) → IsInOrder (slots_of entries) → Some e ≡ slice_get entries (length entries - 1) → is_above e.slot.id x ≡ false
    → Each (λ q. is_above q.slot.id x ≡ false) entries
last_low x [] e o is low = tt
last_low x (q ∷ []) e o is low = let same : e ≡ q = cc in (subst (λ (r : Entry). is_above r.slot.id x ≡ false) same low, tt)
last_low x (q ∷ r ∷ entries) e o is low =
    let rest = last_low x (r ∷ entries) e o.1 (is ∙ ap (λ n. slice_get (q ∷ r ∷ entries) n) places) low in
    (up_to q.slot.id r.slot.id x o.0.0 rest.0, rest)
  where
    places : suc (suc (length entries)) - 1 ≡ suc (suc (length entries) - 1)
    places = omega arith

pub place_last : (x : Id) (entries : List Entry) (e : Entry) → IsInOrder (slots_of entries) → Some e ≡ slice_get entries (length entries - 1) → is_above e.slot.id x ≡ false
    → IsPlace x (length entries) entries
place_last x entries e o is low = record {
  within = omega arith;
  low = each_take (λ q. is_above q.slot.id x ≡ false) (length entries) entries (last_low x entries e o is low);
  high = each_past (λ q. is_above q.slot.id x ≡ true) entries;
}

-- an id that is above that of the last is above all
pub next_last : (x : Id) (entries : List Entry) (e : Entry) → IsInOrder (slots_of entries) → Some e ≡ slice_get entries (length entries - 1) → is_above x e.slot.id ≡ true
    → Each (λ s. is_above x s.id ≡ true) (slots_of entries)
next_last x [] e o is high = tt
next_last x (q ∷ []) e o is high = let same : e ≡ q = cc in (subst (λ (r : Entry). is_above x r.slot.id ≡ true) same high, tt)
next_last x (q ∷ r ∷ entries) e o is high =
    let rest = next_last x (r ∷ entries) e o.1 (is ∙ ap (λ n. slice_get (q ∷ r ∷ entries) n) places) high in
    (above_low x r.slot.id q.slot.id rest.0 o.0.0, rest)
  where
    places : suc (suc (length entries)) - 1 ≡ suc (suc (length entries) - 1)
    places = omega arith

pub last_is : (P : Slot → Type 0) (entries : List Entry) (e : Entry) → Some e ≡ slice_get entries (length entries - 1) → Each P (slots_of entries) → P e.slot
last_is P [] e is all = absurd (cc)
last_is P (q ∷ []) e is all = let same : e ≡ q = cc in subst (λ (r : Entry). P r.slot) (sym same) all.0
last_is P (q ∷ r ∷ entries) e is all = last_is P (r ∷ entries) e (is ∙ ap (λ n. slice_get (q ∷ r ∷ entries) n) places) all.1
  where
    places : suc (suc (length entries)) - 1 ≡ suc (suc (length entries) - 1)
    places = omega arith

-- the place of an id that is above all is the end
pub place_next : (x : Id) (entries : List Entry) → Each (λ s. is_above x s.id ≡ true) (slots_of entries) → IsPlace x (length entries) entries
place_next x entries next = record {
  within = omega arith;
  low = each_take (λ q. is_above q.slot.id x ≡ false) (length entries) entries
      (each_weaker (λ q h. above_back x q.slot.id h) entries (entries_each (λ s. is_above x s.id ≡ true) entries next));
  high = each_past (λ q. is_above q.slot.id x ≡ true) entries;
}

-- by the least grants
coming_low : (grant : ℕ) (entries : List Entry) → AreComing entries → Each (λ q. earliest_of grant entries ≤ q.earliest) entries
coming_low grant [] h = tt
coming_low grant (e ∷ entries) h = (
  least grant e.earliest,
  each_weaker (λ q k. lower grant e.earliest (earliest_of e.slot.grant entries) q.earliest h.0 k) entries (coming_low e.slot.grant entries h.1),
)
  where
    least : (a b : ℕ) → min a b ≤ b
    least a b = omega arith

    lower : (g e n q : ℕ) → e ≡ n → n ≤ q → min g e ≤ q
    lower g e n q is k = omega arith

pub coming_climbs : (entries : List Entry) → AreComing entries → AreClimbing (λ e. e.earliest) entries
coming_climbs [] h = tt
coming_climbs (e ∷ entries) h = (
  subst (λ n. Each (λ q. n ≤ q.earliest) entries) (sym h.0) (coming_low e.slot.grant entries h.1),
  coming_climbs entries h.1,
)

running_high : (latest : ℕ) (entries : List Entry) → AreRunning latest entries → Each (λ q. latest ≤ q.latest) entries
running_high latest [] h = tt
running_high latest (e ∷ entries) h = (
  up latest e.slot.grant e.latest h.0,
  each_weaker (λ q k. over latest e.slot.grant e.latest q.latest h.0 k) entries (running_high e.latest entries h.1),
)
  where
    up : (a b e : ℕ) → e ≡ max a b → a ≤ e
    up a b e is = omega arith

    over : (a b e q : ℕ) → e ≡ max a b → e ≤ q → a ≤ q
    over a b e q is k = omega arith

pub running_climbs : (latest : ℕ) (entries : List Entry) → AreRunning latest entries → AreClimbing (λ e. e.latest) entries
running_climbs latest [] h = tt
running_climbs latest (e ∷ entries) h = (running_high e.latest entries h.1, running_climbs e.latest entries h.1)

-- a number that climbs
module _ (f : Entry → ℕ) where
  pub climbs_at : (entries : List Entry) (i j : ℕ) (d : Entry) → AreClimbing f entries → i ≤ j → j < length entries → f (get_or entries i d) ≤ f (get_or entries j d)
  climbs_at [] i j d h le l = absurd (omega arith)
  climbs_at (e ∷ entries) zero zero d h le l = omega arith
  climbs_at (e ∷ entries) zero (suc j) d h le l = each_at (λ q. f e ≤ f q) entries j d (omega arith) h.0
  climbs_at (e ∷ entries) (suc i) zero d h le l = absurd (omega arith)
  climbs_at (e ∷ entries) (suc i) (suc j) d h le l = climbs_at entries i j d h.1 (omega arith) (omega arith)

  -- on either side of a place it is no greater, or no less, than there
  pub climbs_front : (bound : ℕ) (entries : List Entry) (n m : ℕ) (d : Entry) → AreClimbing f (take m entries) → n < m → m ≤ length entries → f (get_or entries n d) ≤ bound
      → Each (λ e. f e ≤ bound) (take (suc n) entries)
  climbs_front bound [] n m d h some within low = absurd (omega arith)
  climbs_front bound (e ∷ entries) n zero d h some within low = absurd (omega arith)
  climbs_front bound (e ∷ entries) zero (suc m) d h some within low = (low, tt)
  climbs_front bound (e ∷ entries) (suc n) (suc m) d h some within low =
      let up = each_at_front (λ q. f e ≤ f q) entries n m d (omega arith) (omega arith) h.0 in
      (omega (arith, up, low), climbs_front bound entries n m d h.1 (omega arith) (omega arith) low)

  pub climbs_back : (bound : ℕ) (entries : List Entry) (n m : ℕ) (d : Entry) → AreClimbing f (drop n entries) → n ≤ m → m < length entries → bound ≤ f (get_or entries m d)
      → Each (λ e. bound ≤ f e) (drop m entries)
  climbs_back bound [] n m d h le within high = absurd (omega arith)
  climbs_back bound (e ∷ entries) zero zero d h le within high = (high, each_weaker (λ q k. omega (arith, high, k)) entries h.0)
  climbs_back bound (e ∷ entries) zero (suc m) d h le within high = climbs_back bound entries zero m d h.1 (omega arith) (omega arith) high
  climbs_back bound (e ∷ entries) (suc n) zero d h le within high = absurd (omega arith)
  climbs_back bound (e ∷ entries) (suc n) (suc m) d h le within high = climbs_back bound entries n m d h (omega arith) (omega arith) high

  pub climbs_take : (n : ℕ) (entries : List Entry) → AreClimbing f entries → AreClimbing f (take n entries)
  climbs_take zero entries h = tt
  climbs_take (suc n) [] h = tt
  climbs_take (suc n) (e ∷ entries) h = (each_take (λ q. f e ≤ f q) n entries h.0, climbs_take n entries h.1)

  pub climbs_drop : (n : ℕ) (entries : List Entry) → AreClimbing f entries → AreClimbing f (drop n entries)
  climbs_drop zero entries h = h
  climbs_drop (suc n) [] h = tt
  climbs_drop (suc n) (e ∷ entries) h = climbs_drop n entries h.1

  pub parted_by : (limit : ℕ) (entries : List Entry) → AreClimbing f entries → IsPartitionedBy (λ e. nat_lt (f e) limit) entries
  parted_by limit entries h i j d le l on = below (f (get_or entries i d)) (f (get_or entries j d)) (climbs_at entries i j d h le l) on
    where
      below : (m n : ℕ) → m ≤ n → nat_lt n limit ≡ true → nat_lt m limit ≡ true
      below m n h k = grind (arith, nat_tests)

-- the last that begins before a limit
least_is : (grant : ℕ) (entries : List Entry) → earliest_of grant entries ≤ grant
least_is grant [] = omega arith
least_is grant (e ∷ entries) = omega arith

coming_grants : (entries : List Entry) → AreComing entries → Each (λ e. e.earliest ≤ e.slot.grant) entries
coming_grants [] h = tt
coming_grants (e ∷ entries) h = (subst (λ n. n ≤ e.slot.grant) (sym h.0) (least_is e.slot.grant entries), coming_grants entries h.1)

module _ (limit : ℕ) where
  off_of : (m n : ℕ) → m ≤ n → limit ≤ m → nat_lt n limit ≡ false
  off_of m n h k = grind (arith, nat_tests)

  on_of : (n : ℕ) → n < limit → nat_lt n limit ≡ true
  on_of n h = grind (arith, nat_tests)

  both : (entries : List Entry) → Each (λ e. e.earliest ≤ e.slot.grant) entries → Each (λ e. limit ≤ e.earliest) entries → Each (λ e. nat_lt e.slot.grant limit ≡ false) entries
  both [] h k = tt
  both (e ∷ entries) h k = (off_of e.earliest e.slot.grant h.0 k.0, both entries h.1 k.1)

  late_grants : (n : ℕ) (entries : List Entry) → AreComing entries → Each (λ e. limit ≤ e.earliest) (drop n entries) → Each (λ e. nat_lt e.slot.grant limit ≡ false) (drop n entries)
  late_grants n entries h k = both (drop n entries) (each_drop (λ e. e.earliest ≤ e.slot.grant) n entries (coming_grants entries h)) k

  soon_grant : (entries : List Entry) (n : ℕ) (d : Entry) → AreComing entries → n < length entries → (get_or entries n d).earliest < limit → Each (λ e. limit ≤ e.earliest) (drop (suc n) entries)
      → (get_or entries n d).slot.grant < limit
  soon_grant [] n d h l soon late = absurd (omega arith)
  soon_grant (e ∷ []) zero d h l soon late = subst (λ n. n < limit) h.0 soon
  soon_grant (e ∷ q ∷ entries) zero d h l soon late = by e.earliest e.slot.grant q.earliest h.0 soon late.0
    where
      by : (n g m : ℕ) → n ≡ min g m → n < limit → limit ≤ m → g < limit
      by n g m is soon late = omega arith
  soon_grant (e ∷ entries) (suc n) d h l soon late = soon_grant entries n d h.1 (omega arith) soon late

  pub last_soon : (entries : List Entry) (n : ℕ) (d : Entry) → IsInOrder (slots_of entries) → AreComing entries → n < length entries → Each (λ e. e.earliest < limit) (take (suc n) entries)
      → Each (λ e. limit ≤ e.earliest) (drop (suc n) entries) → greatest_id (filter (λ s. nat_lt s.grant limit) (slots_of entries)) ≡ Some (get_or entries n d).slot.id
  last_soon entries n d o h l soon late =
      greatest_is_last (λ s. nat_lt s.grant limit) entries n d o l
      (on_of (get_or entries n d).slot.grant (soon_grant entries n d h l (at entries n l soon) late)) (late_grants (suc n) entries h late)
    where
      at : (entries : List Entry) (n : ℕ) → n < length entries → Each (λ e. e.earliest < limit) (take (suc n) entries) → (get_or entries n d).earliest < limit
      at [] n l h = absurd (omega arith)
      at (e ∷ entries) zero l h = h.0
      at (e ∷ entries) (suc n) l h = at entries n (omega arith) h.1

  pub none_soon : (entries : List Entry) → AreComing entries → Each (λ e. limit ≤ e.earliest) entries → greatest_id (filter (λ s. nat_lt s.grant limit) (slots_of entries)) ≡ None
  none_soon entries h late =
      ap greatest_id (filter_none (λ s. nat_lt s.grant limit) (slots_of entries) (slots_each (λ s. nat_lt s.grant limit ≡ false) entries (late_grants 0 entries h late)))

  -- by how many they are
  pub none_counted : (entries : List Entry) (n : ℕ) → n ≡ 0 → AreComing entries → Each (λ e. limit ≤ e.earliest) (drop n entries)
      → None ≡ greatest_id (filter (λ s. nat_lt s.grant limit) (slots_of entries))
  none_counted entries n e h late = sym (none_soon entries h (subst (λ k. Each (λ q. limit ≤ q.earliest) (drop k entries)) e late))

  pub last_counted : (entries : List Entry) (n : ℕ) (d : Entry) → IsInOrder (slots_of entries) → AreComing entries → 0 < n → n ≤ length entries → Each (λ e. e.earliest < limit) (take n entries)
      → Each (λ e. limit ≤ e.earliest) (drop n entries) → Some (get_or entries (n - 1) d).slot.id ≡ greatest_id (filter (λ s. nat_lt s.grant limit) (slots_of entries))
  last_counted entries n d o h some within soon late =
      let places : n ≡ suc (n - 1) = omega arith in
      sym (last_soon entries (n - 1) d o h (omega arith)
      (subst (λ k. Each (λ q. q.earliest < limit) (take k entries)) places soon) (subst (λ k. Each (λ q. limit ≤ q.earliest) (drop k entries)) places late))
