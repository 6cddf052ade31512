-- Lists of which at most one element passes a test.
use Rattle.std.proofs.Common.{◌≡◌, ℕ, zero, suc, ◌+◌, ◌<◌, ◌≤◌, Bool, true, not, cond, List, [], ◌∷◌, Some, None, length, get_or, set, map, filter, find, position, remove, slice_get, refl, ap, ◌∙◌, inl, inr, arith}
use Rattle.std.specs.List.{position_or_len}
use Rattle.std.proofs.lemmas.Bool.{cases_Bool, cases_lt, ltb-true, lt-ltb}
use Rattle.std.proofs.lemmas.List.Folds.{find_at}
use Rattle.std.proofs.lemmas.Option.{none-some, same_Some, get_or_from_slice_get, slice_get-get_or, slice_get_past, slice_get_within, cond_some}

one_more : (n : ℕ) → 1 + n ≡ suc n
one_more n = omega arith

module _ {X : Type 0} (p : X → Bool) where
  -- no element passes
  others_none : (xs : List X) → length (filter p xs) ≡ 0 → filter (λ x. not (p x)) xs ≡ xs
  others_none [] h = refl
  others_none (x ∷ xs) h = elim (cases_Bool (p x)) [
    | inl t ↦ let e = rw t at h in absurd (omega arith)
    | inr f ↦ let e = rw f at h in rw f (ap (λ ys. x ∷ ys) (others_none xs (omega arith)))
  ]

  those_none : (xs : List X) → length (filter p xs) ≡ 0 → filter p xs ≡ []
  those_none [] h = refl
  those_none (x ∷ xs) h = elim (cases_Bool (p x)) [
    | inl t ↦ let e = rw t at h in absurd (omega arith)
    | inr f ↦ let e = rw f at h in rw f (those_none xs (omega arith))
  ]

  changed_none : (f : X → X) (xs : List X) → length (filter p xs) ≡ 0 → map (λ x. cond (p x) (f x) x) xs ≡ xs
  changed_none g [] h = refl
  changed_none g (x ∷ xs) h = elim (cases_Bool (p x)) [
    | inl t ↦ let e = rw t at h in absurd (omega arith)
    | inr f ↦ let e = rw f at h in rw f (ap (λ ys. x ∷ ys) (changed_none g xs (omega arith)))
  ]

  none_before : (xs : List X) → length xs ≤ position_or_len p xs → length (filter p xs) ≡ 0
  none_before [] h = refl
  none_before (x ∷ xs) h = elim (cases_Bool (p x)) [
    | inl t ↦ let e = rw t at h in absurd (omega arith)
    | inr f ↦ let e = rw f at h in rw f (none_before xs (omega arith))
  ]

  -- at most one element passes
  others_at : (xs : List X) → length (filter p xs) ≤ 1 → filter (λ x. not (p x)) xs ≡ remove xs (position_or_len p xs)
  others_at [] h = refl
  others_at (x ∷ xs) h = elim (cases_Bool (p x)) [
    | inl t ↦ let e = rw t at h in rw t (others_none xs (omega arith))
    | inr f ↦ let e = rw f at h in rw (f, one_more (position_or_len p xs)) (ap (λ ys. x ∷ ys) (others_at xs (omega arith)))
  ]

  those_at : (xs : List X) (d : X) → length (filter p xs) ≤ 1 → position_or_len p xs < length xs → filter p xs ≡ get_or xs (position_or_len p xs) d ∷ []
  those_at [] d h k = absurd (omega arith)
  those_at (x ∷ xs) d h k = elim (cases_Bool (p x)) [
    | inl t ↦ let e = rw t at h in rw t (ap (λ ys. x ∷ ys) (those_none xs (omega arith)))
    | inr f ↦ let e = rw f at h in let l = rw f at k in rw (f, one_more (position_or_len p xs)) (those_at xs d (omega arith) (omega arith))
  ]

  changed_at : (f : X → X) (xs : List X) (d : X) → length (filter p xs) ≤ 1 → position_or_len p xs < length xs
      → map (λ x. cond (p x) (f x) x) xs ≡ set xs (position_or_len p xs) (f (get_or xs (position_or_len p xs) d))
  changed_at g [] d h k = absurd (omega arith)
  changed_at g (x ∷ xs) d h k = elim (cases_Bool (p x)) [
    | inl t ↦ let e = rw t at h in rw t (ap (λ ys. g x ∷ ys) (changed_none g xs (omega arith)))
    | inr f ↦ let e = rw f at h in let l = rw f at k in rw (f, one_more (position_or_len p xs)) (ap (λ ys. x ∷ ys) (changed_at g xs d (omega arith) (omega arith)))
  ]

  pub some_place : (xs : List X) (i : ℕ) → position p xs ≡ Some i → (position_or_len p xs < length xs) × (position_or_len p xs ≡ i)
  some_place xs i h = let e = cond_some _ _ _ h in (ltb-true _ _ e.0, e.1)

  -- the one element that passes stands at i
  pub record Found (xs : List X) (i : ℕ) (x : X) : Type 0 where
    pub within : i < length xs
    pub is_found : find p xs ≡ Some x
    pub those : filter p xs ≡ x ∷ []
    pub others : filter (λ y. not (p y)) xs ≡ remove xs i
    pub changed : (f : X → X) → map (λ y. cond (p y) (f y) y) xs ≡ set xs i (f x)

  found_at : (xs : List X) (i : ℕ) (x : X) → length (filter p xs) ≤ 1 → position_or_len p xs < length xs → position_or_len p xs ≡ i → slice_get xs i ≡ Some x → Found xs i x
  found_at xs i x once within is at =
      let d : get_or xs i x ≡ x = get_or_from_slice_get xs i x x at in
      record {
        within = omega arith;
        is_found = find_at p xs ∙ rw is at;
        those = those_at xs x once within ∙ rw (is, d) refl;
        others = others_at xs once ∙ rw is refl;
        changed = λ f. changed_at f xs x once within ∙ rw (is, d) refl;
      }

  -- the first element that passes stands at i
  pub find_first : (xs : List X) (i : ℕ) (x : X) → position p xs ≡ Some i → slice_get xs i ≡ Some x → find p xs ≡ Some x
  find_first xs i x place at = find_at p xs ∙ rw (some_place xs i place).1 at

  pub get_found : (xs : List X) (i : ℕ) (d : X) → position p xs ≡ Some i → slice_get xs i ≡ Some (get_or xs i d)
  get_found xs i d place = let s = some_place xs i place in slice_get-get_or xs i d (omega arith)

  pub found : (xs : List X) (i : ℕ) (x : X) → length (filter p xs) ≤ 1 → position p xs ≡ Some i → slice_get xs i ≡ Some x → Found xs i x
  found xs i x once place at = let s = some_place xs i place in found_at xs i x once s.0 s.1 at

  -- an element that passes stands at i
  counted : (xs : List X) (i : ℕ) (x : X) → slice_get xs i ≡ Some x → p x ≡ true → 1 ≤ length (filter p xs)
  counted [] i x at passes = absurd (none-some x at)
  counted (y ∷ ys) zero x at passes = let e : p y ≡ true = rw (same_Some y x at) passes in rw e (omega arith)
  counted (y ∷ ys) (suc i) x at passes = elim (cases_Bool (p y)) [
    | inl t ↦ rw t (omega arith)
    | inr f ↦ rw f (counted ys i x at passes)
  ]

  only_place : (xs : List X) (i : ℕ) (x : X) → length (filter p xs) ≤ 1 → slice_get xs i ≡ Some x → p x ≡ true → position_or_len p xs ≡ i
  only_place [] i x once at passes = absurd (none-some x at)
  only_place (y ∷ ys) zero x once at passes = let e : p y ≡ true = rw (same_Some y x at) passes in rw e refl
  only_place (y ∷ ys) (suc i) x once at passes = elim (cases_Bool (p y)) [
    | inl t ↦ let h = rw t at once in absurd (omega (arith, counted ys i x at passes))
    | inr f ↦ let h = rw f at once in rw (f, one_more (position_or_len p ys)) (ap suc (only_place ys i x h at passes))
  ]

  found_passes : (xs : List X) (x : X) → find p xs ≡ Some x → p x ≡ true
  found_passes [] x is = absurd (none-some x is)
  found_passes (y ∷ ys) x is = elim (cases_Bool (p y)) [
    | inl t ↦ let e = rw t at is in rw (← same_Some y x e) t
    | inr f ↦ let e = rw f at is in found_passes ys x e
  ]

  -- the one that passes stands at i, so the first that passes does
  pub place_is : (xs : List X) (i : ℕ) (x : X) → length (filter p xs) ≤ 1 → slice_get xs i ≡ Some x → find p xs ≡ Some x → position p xs ≡ Some i
  place_is xs i x once at is =
      let e = only_place xs i x once at (found_passes xs x is) in
      rw (lt-ltb (position_or_len p xs) (length xs) (omega (arith, slice_get_within xs i x at))) (ap Some e)

  -- no element passes
  pub record Missing (xs : List X) : Type 0 where
    pub not_found : find p xs ≡ None
    pub those : filter p xs ≡ []
    pub others : filter (λ y. not (p y)) xs ≡ xs
    pub changed : (f : X → X) → map (λ y. cond (p y) (f y) y) xs ≡ xs

  no_place : (xs : List X) → position p xs ≡ None → length xs ≤ position_or_len p xs
  no_place xs h = elim (cases_lt (position_or_len p xs) (length xs)) [
    | inl within ↦ let e = rw (lt-ltb _ _ within) at h in absurd (cc)
    | inr past ↦ past
  ]

  pub missing : (xs : List X) → position p xs ≡ None → Missing xs
  missing xs h =
      let past = no_place xs h in
      let none = none_before xs past in
      record {
        not_found = find_at p xs ∙ slice_get_past xs _ past;
        those = those_none xs none;
        others = others_none xs none;
        changed = λ f. changed_none f xs none;
      }
