-- Facts of each item, and what a filter keeps.
use Rattle.std.proofs.Common.{◌≡◌, ℕ, ◌<◌, ◌≤◌, zero, suc, List, [], ◌∷◌, ◌++◌, length, get_or, take, drop, Bool, true, false, cond, refl, ap, ◌∙◌, arith}
use Rattle.std.specs.List.{filter, AllByRecursion as Each}

module _ {X : Type 0} where
  pub each_weaker : {P Q : X → Type 0} → ((x : X) → P x → Q x) → (xs : List X) → Each P xs → Each Q xs
  each_weaker f [] h = tt
  each_weaker f (x ∷ xs) h = (f x h.0, each_weaker f xs h.1)

  pub each_append : (P : X → Type 0) (xs ys : List X) → Each P xs → Each P ys → Each P (xs ++ ys)
  each_append P [] ys h k = k
  each_append P (x ∷ xs) ys h k = (h.0, each_append P xs ys h.1 k)

  pub each_take : (P : X → Type 0) (n : ℕ) (xs : List X) → Each P xs → Each P (take n xs)
  each_take P zero xs h = tt
  each_take P (suc n) [] h = tt
  each_take P (suc n) (x ∷ xs) h = (h.0, each_take P n xs h.1)

  pub each_drop : (P : X → Type 0) (n : ℕ) (xs : List X) → Each P xs → Each P (drop n xs)
  each_drop P zero xs h = h
  each_drop P (suc n) [] h = tt
  each_drop P (suc n) (x ∷ xs) h = each_drop P n xs h.1

  -- the item at a place
  pub each_at : (P : X → Type 0) (xs : List X) (n : ℕ) (d : X) → n < length xs → Each P xs → P (get_or xs n d)
  each_at P [] n d l h = absurd (omega arith)
  each_at P (x ∷ xs) zero d l h = h.0
  each_at P (x ∷ xs) (suc n) d l h = each_at P xs n d (omega arith) h.1

  -- none is behind the last
  pub each_past : (P : X → Type 0) (xs : List X) → Each P (drop (length xs) xs)
  each_past P [] = tt
  each_past P (x ∷ xs) = each_past P xs

  pub each_at_front : (P : X → Type 0) (xs : List X) (n m : ℕ) (d : X) → n < m → m ≤ length xs → Each P (take m xs) → P (get_or xs n d)
  each_at_front P [] n m d some within h = absurd (omega arith)
  each_at_front P (x ∷ xs) n zero d some within h = absurd (omega arith)
  each_at_front P (x ∷ xs) zero (suc m) d some within h = h.0
  each_at_front P (x ∷ xs) (suc n) (suc m) d some within h = each_at_front P xs n m d (omega arith) (omega arith) h.1

module _ {X : Type 0} (p : X → Bool) where
  pub filter_case : (x : X) (xs : List X) (R : List X → Type 0) → (p x ≡ true → R (x ∷ filter p xs)) → (p x ≡ false → R (filter p xs)) → R (filter p (x ∷ xs))
  filter_case x xs R on off = elim (p x) as (λ b. p x ≡ b → R (cond b (x ∷ filter p xs) (filter p xs))) [ true ↦ on | false ↦ off ] refl

  pub filter-yes : (x : X) (xs : List X) → p x ≡ true → filter p (x ∷ xs) ≡ x ∷ filter p xs
  filter-yes x xs h = ap (λ b. cond b (x ∷ filter p xs) (filter p xs)) h

  pub filter-no : (x : X) (xs : List X) → p x ≡ false → filter p (x ∷ xs) ≡ filter p xs
  filter-no x xs h = ap (λ b. cond b (x ∷ filter p xs) (filter p xs)) h

  pub filter_all : (xs : List X) → Each (λ x. p x ≡ true) xs → filter p xs ≡ xs
  filter_all [] h = refl
  filter_all (x ∷ xs) h = filter-yes x xs h.0 ∙ ap (λ ys. x ∷ ys) (filter_all xs h.1)

  pub filter_none : (xs : List X) → Each (λ x. p x ≡ false) xs → filter p xs ≡ []
  filter_none [] h = refl
  filter_none (x ∷ xs) h = filter-no x xs h.0 ∙ filter_none xs h.1

  pub filter_same : (q : X → Bool) (xs : List X) → Each (λ x. p x ≡ q x) xs → filter p xs ≡ filter q xs
  filter_same q [] h = refl
  filter_same q (x ∷ xs) h =
      ap (λ b. cond b (x ∷ filter p xs) (filter p xs)) h.0 ∙ ap (λ ys. cond (q x) (x ∷ ys) ys) (filter_same q xs h.1)

  -- facts of what passes, and of what doesn't
  pub each_passed : (Q : X → Type 0) (xs : List X) → Each Q (filter p xs) → Each (λ x. p x ≡ true → Q x) xs
  each_passed Q [] = λ h. tt
  each_passed Q (x ∷ xs) =
      filter_case x xs (λ l. Each Q l → Each (λ y. p y ≡ true → Q y) (x ∷ xs))
      (λ on h. (λ _. h.0, each_passed Q xs h.1))
      (λ off h. (λ on. absurd (cc), each_passed Q xs h))

  pub each_off : (xs : List X) → filter p xs ≡ [] → Each (λ x. p x ≡ false) xs
  each_off [] = λ e. tt
  each_off (x ∷ xs) = filter_case x xs (λ l. l ≡ [] → Each (λ y. p y ≡ false) (x ∷ xs)) (λ on e. absurd (cc)) (λ off e. (off, each_off xs e))
