-- A walk over the cores of a set.
use Rattle.std.proofs.Common.{◌≡◌, ℕ, zero, suc, ◌+◌, ◌<◌, ◌≤◌, Bool, true, false, List, [], ◌∷◌, ◌++◌, length, get_or, take, filter, map, refl, inl, inr, arith, length-take}
use Rattle.std.proofs.lemmas.Bool.{cases_Bool, eq-eqb}
use Rattle.std.proofs.lemmas.List.{map-append, append-nil, length-map}
use Rattle.std.proofs.lemmas.List.Elements.{filter_more}
use Rattle.std.proofs.lemmas.List.Sums.{length-filter, count_by-le-length}
use Rattle.std.proofs.lemmas.List.FromFn.{length-range_with_len, get_or-range_with_len}
use Rattle.slack_base.specs.declared.bounds.TheConstants.{MOST_CORES}
use Rattle.status_map.specs.Cores.{all_cores, is_other, others}

module _ {X Y : Type 0} (f : X → Y) (p : X → Bool) (xs : List X) (i : ℕ) (d : X) (within : i < length xs) where
  -- one more element is looked at, and passes or not
  pub passes_more : p (get_or xs i d) ≡ true → map f (filter p (take (i + 1) xs)) ≡ map f (filter p (take i xs)) ++ f (get_or xs i d) ∷ []
  passes_more passed =
      rw (filter_more p xs i d within, passed) (map-append f (filter p (take i xs)) (get_or xs i d ∷ []))

  pub fails_more : p (get_or xs i d) ≡ false → map f (filter p (take (i + 1) xs)) ≡ map f (filter p (take i xs))
  fails_more failed = rw (filter_more p xs i d within, failed, append-nil (filter p (take i xs))) refl

module _ {X : Type 0} (p : X → Bool) where
  pub few_pass : (xs : List X) → length (filter p xs) ≤ length xs
  few_pass xs = omega (arith, length-filter p xs, count_by-le-length p xs)

  -- an element that doesn't pass
  pub fewer_pass : (xs : List X) (i : ℕ) (d : X) → i < length xs → p (get_or xs i d) ≡ false → length (filter p xs) < length xs
  fewer_pass [] i d within failed = absurd (omega arith)
  fewer_pass (x ∷ xs) zero d within failed = rw failed (omega (arith, few_pass xs))
  fewer_pass (x ∷ xs) (suc i) d within failed = elim (cases_Bool (p x)) [
    | inl y ↦ rw y (omega (arith, fewer_pass xs i d (omega arith) failed))
    | inr n ↦ rw n (omega (arith, few_pass xs))
  ]

-- of the first i elements no more than i pass
pub few_so_far : {X Y : Type 0} (f : X → Y) (p : X → Bool) (xs : List X) (i : ℕ) → length (map f (filter p (take i xs))) ≤ i
few_so_far f p xs i = omega (arith, length-map (filter p (take i xs)) f, few_pass p (take i xs), length-take i xs)

-- each number stands at its own place
pub core_at : (c d : ℕ) → c < MOST_CORES → get_or all_cores c d ≡ c
unfolding all_cores
core_at c d low = let at = get_or-range_with_len 0 MOST_CORES c d low in omega (arith, at)

pub count_of_cores : length all_cores ≡ MOST_CORES
unfolding all_cores
count_of_cores = length-range_with_len 0 MOST_CORES

-- the one that asks isn't among the others, so there is room for one more
pub fewer_others : (cores asking : ℕ) → asking < MOST_CORES → length (others cores asking) < MOST_CORES
fewer_others cores asking low =
    let fewer : length (others cores asking) < length all_cores =
    fewer_pass (is_other cores asking) all_cores asking 0 (omega (arith, count_of_cores)) (rw (core_at asking 0 low, eq-eqb asking asking refl) refl) in
    omega (arith, count_of_cores)
