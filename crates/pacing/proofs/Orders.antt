-- Asks in the order of their ids: that order is one.
use Rattle.std.proofs.Common.{◌≡◌, ◌≢◌, ◌∙◌, ℕ, ◌<◌, ◌≤◌, zero, suc, true, false, List, [], ◌∷◌, ◌⊎◌, inl, inr, length, get_or, set, refl, sym, ap, subst, arith, ⊎_elim}
use Rattle.std.specs.List.{filter, swap, AllByRecursion as Each}
use Rattle.std.specs.List.Sorted.{IsPermutation, IsSortedByKey}
use Rattle.std.specs.Cmp.{IsTotalOrder}
use Rattle.std.specs.Ordering.{is_lt, is_gt, ordering_reverse}
use Rattle.std.specs.declared.cmp.Ordering.{Ordering}
use Rattle.std.specs.declared.cmp.Ordering.TheVariants.{Less, Equal, Greater}
use Rattle.std.proofs.lemmas.Cmp.{then_total, on_total, nat_cmp_total}
use Rattle.std.proofs.lemmas.List.Elements.{recursion_from_All}
use Rattle.std.proofs.lemmas.Bool.{false≢true}
use Rattle.std.proofs.lemmas.List.Edits.{swap_is}
use Rattle.std.proofs.lemmas.List.Sorted.{IsPermutation-keeps, ranks_by, sorted_far}
use Rattle.slack_base.specs.declared.messages.Ask.{Ask}
use Rattle.slack_base.specs.Messages.{id_of}
use Rattle.slack_base.specs.declared.stamps.Id.{Id}
use Rattle.slack_base.specs.Stamps.{id_cmp, is_above}
use Rattle.target_law.specs.Served.{AreRising, IsAbove, Perm, more, swap as exchange, join}
use Rattle.target_law.proofs.Lists.{each_weaker, filter-no, filter_all}
use Rattle.violation_watch.proofs.Ids.{above_self, above_back, same_id}
use Rattle.violation_watch.proofs.Channels.{AreDistinct}
use Rattle.violation_watch.proofs.Lists.{each_both}
use Rattle.violation_watch.proofs.Perms.{perm_same, perm_of, perm_back, perm_each, perm_filter, perm_pairwise}

module _ {X : Type 0} where
  -- an item before a list goes to a place of it, and the one there comes before it
  perm_out : (i : ℕ) (xs : List X) (y d : X) → i < length xs → Perm X (y ∷ xs) (get_or xs i d ∷ set xs i y)
  perm_out i [] y d low = absurd (omega arith)
  perm_out zero (x ∷ xs) y d low = exchange y x xs
  perm_out (suc i) (x ∷ xs) y d low =
      join (exchange y x xs) (join (more x (perm_out i xs y d (omega arith))) (exchange x (get_or xs i d) (set xs i y)))

  -- two items change places
  perm_set : (xs : List X) (i j : ℕ) (d : X) → i < length xs → j < length xs → Perm X xs (set (set xs i (get_or xs j d)) j (get_or xs i d))
  perm_set [] i j d low high = absurd (omega arith)
  perm_set (x ∷ xs) zero zero d low high = perm_same (x ∷ xs)
  perm_set (x ∷ xs) zero (suc j) d low high = perm_out j xs x d (omega arith)
  perm_set (x ∷ xs) (suc i) zero d low high = perm_out i xs x d (omega arith)
  perm_set (x ∷ xs) (suc i) (suc j) d low high = more x (perm_set xs i j d (omega arith) (omega arith))

  perm_swap : (xs : List X) (i j : ℕ) → i < length xs → j < length xs → Perm X xs (swap xs i j)
  perm_swap [] i j low high = absurd (omega arith)
  perm_swap (x ∷ xs) i j low high = join (perm_set (x ∷ xs) i j x low high) (perm_of _ _ (swap_is (x ∷ xs) i j x low high))

  pub perm_from : (xs ys : List X) → IsPermutation xs ys → Perm X xs ys
  perm_from xs ys is = IsPermutation-keeps xs (Perm X xs) (perm_same xs) (λ zs i j low high so. join so (perm_swap zs i j low high)) ys is

none_in : {X : Type 0} (ys : List X) → Perm X [] ys → [] ≡ ys
none_in [] p = refl
none_in (y ∷ ys) p = absurd (perm_each (λ _. ⊥) p tt).0

-- what is above the first is the rest
rest_of : (x : Ask) (xs : List Ask) → Each (λ y. IsAbove y x) xs → filter (λ y. is_above (id_of y) (id_of x)) (x ∷ xs) ≡ xs
rest_of x xs above = filter-no (λ y. is_above (id_of y) (id_of x)) x xs (above_self (id_of x)) ∙ filter_all (λ y. is_above (id_of y) (id_of x)) xs above

-- of two lists of the same asks that rise, the first asks are the same
first_same : (x y : Ask) (xs ys : List Ask) → Each (λ z. IsAbove z x) xs → Each (λ z. IsAbove z y) ys → Perm Ask (x ∷ xs) (y ∷ ys) → x ≡ y
first_same x y xs ys above above' p =
    let from : (y ≡ x) ⊎ IsAbove y x = (perm_each (λ z. (z ≡ x) ⊎ IsAbove z x) p (inl refl, each_weaker (λ z h. inr h) xs above)).0 in
    let back : (x ≡ y) ⊎ IsAbove x y = (perm_each (λ z. (z ≡ y) ⊎ IsAbove z y) (perm_back p) (inl refl, each_weaker (λ z h. inr h) ys above')).0 in
    ⊎_elim sym (λ up. ⊎_elim (λ e. e) (λ down. absurd (false≢true (sym (above_back (id_of y) (id_of x) up) ∙ down))) back) from

-- asks have one order in which they rise
pub rising_once : (xs ys : List Ask) → Perm Ask xs ys → AreRising xs → AreRising ys → xs ≡ ys
rising_once [] ys p rise rise' = none_in ys p
rising_once (x ∷ xs) [] p rise rise' = absurd (perm_each (λ _. ⊥) (perm_back p) tt).0
rising_once (x ∷ xs) (y ∷ ys) p rise rise' =
    let e = first_same x y xs ys rise.0 rise'.0 p in
    let rest : Perm Ask xs ys =
    subst (λ zs. Perm Ask xs zs) (ap (λ z. filter (λ w. is_above (id_of w) (id_of z)) (y ∷ ys)) e ∙ rest_of y ys rise'.0)
    (subst (λ zs. Perm Ask zs (filter (λ w. is_above (id_of w) (id_of x)) (y ∷ ys))) (rest_of x xs rise.0) (perm_filter (λ w. is_above (id_of w) (id_of x)) p)) in
    ap (λ z. z ∷ xs) e ∙ ap (λ zs. y ∷ zs) (rising_once xs ys rest rise.1 rise'.1)

id_cmp_total : IsTotalOrder id_cmp
id_cmp_total =
    then_total (on_total (λ (i : Id). i.cycle) nat_cmp_total)
    (then_total (on_total (λ (i : Id). i.core) nat_cmp_total) (on_total (λ (i : Id). i.number) nat_cmp_total))

turned : (r : Ordering) → is_lt r ≡ false → is_gt (ordering_reverse r) ≡ false
turned Less e = absurd (false≢true (sym e))
turned Equal e = refl
turned Greater e = refl

not_above : (i j : Id) → is_lt (id_cmp j i) ≡ false → is_above i j ≡ false
not_above i j h = ap is_gt (id_cmp_total.antisymm i j) ∙ turned (id_cmp j i) h

above_other : (x y : Ask) → is_above (id_of x) (id_of y) ≡ false → id_of x ≢ id_of y → IsAbove y x
above_other x y h differ =
    elim (is_above (id_of y) (id_of x)) as (λ b. is_above (id_of y) (id_of x) ≡ b → b ≡ true) [
      | true ↦ λ _. refl
      | false ↦ λ e. absurd (differ (same_id (id_of x) (id_of y) h e))
    ] refl

-- no ask comes before an earlier one
abbrev InOrder : List Ask → Type 0
InOrder asks = (i j : ℕ) (d : Ask) → i ≤ j → j < length asks → is_lt (id_cmp (id_of (get_or asks j d)) (id_of (get_or asks i d))) ≡ false

rising_of : (asks : List Ask) → InOrder asks → AreDistinct asks → AreRising asks
rising_of [] h apart = tt
rising_of (x ∷ asks) h apart = (
  each_weaker (λ y both. above_other x y (not_above (id_of x) (id_of y) both.0) both.1) asks
      (each_both (λ y. is_lt (id_cmp (id_of y) (id_of x)) ≡ false) (λ y. id_of x ≢ id_of y) asks
      (recursion_from_All (λ y. is_lt (id_cmp (id_of y) (id_of x)) ≡ false) asks (λ k d low. h 0 (suc k) d (omega arith) (omega arith))) apart.0),
  rising_of asks (λ i j d l m. h (suc i) (suc j) d (omega arith) (omega arith)) apart.1,
)

-- sorted asks of different ids rise
pub rising_sorted : (sent asks : List Ask) → IsPermutation sent asks → AreDistinct sent → IsSortedByKey id_of id_cmp asks → AreRising asks
rising_sorted sent asks is apart up =
    rising_of asks (sorted_far (λ x y. is_lt (id_cmp (id_of x) (id_of y))) (ranks_by id_cmp_total id_of) asks up)
    (perm_pairwise (λ x y d e. d (sym e)) (perm_from sent asks is) apart)
