-- Facts of each item, of each two items, and of items by their places; and what a filter keeps.
use Rattle.std.proofs.Common.{◌≡◌, ℕ, ◌+◌, ◌≤◌, List, [], ◌∷◌, ◌++◌, map, Bool, true, false, cond, refl, ap, ◌∙◌, arith}
use Rattle.std.specs.List.{filter, AllByRecursion as Each}
use Rattle.target_law.specs.Numbered.{AllNumbered}
use Rattle.target_law.specs.Served.{Pairwise}

-- each
module _ {X : Type 0} where
  pub each_weaker : {P Q : X → Type 0} → ((x : X) → P x → Q x) → (xs : List X) → Each P xs → Each Q xs
  each_weaker f [] h = tt
  each_weaker f (x ∷ xs) h = (f x h.0, each_weaker f xs h.1)

  pub each_any : {P : X → Type 0} → ((x : X) → P x) → (xs : List X) → Each P xs
  each_any f [] = tt
  each_any f (x ∷ xs) = (f x, each_any f xs)

  pub each_append : (P : X → Type 0) (xs ys : List X) → Each P xs → Each P ys → Each P (xs ++ ys)
  each_append P [] ys h k = k
  each_append P (x ∷ xs) ys h k = (h.0, each_append P xs ys h.1 k)

  pub pairwise_append : (R : X → X → Type 0) (xs ys : List X) → Pairwise R xs → Pairwise R ys → Each (λ x. Each (R x) ys) xs → Pairwise R (xs ++ ys)
  pairwise_append R [] ys h k across = k
  pairwise_append R (x ∷ xs) ys h k across = (each_append (R x) xs ys h.0 across.0, pairwise_append R xs ys h.1 k across.1)

-- filters
module _ {X : Type 0} (p : X → Bool) where
  pub filter_case : (x : X) (xs : List X) (R : List X → Type 0) → (p x ≡ true → R (x ∷ filter p xs)) → (p x ≡ false → R (filter p xs)) → R (filter p (x ∷ xs))
  filter_case x xs R on off = elim (p x) as (λ b. p x ≡ b → R (cond b (x ∷ filter p xs) (filter p xs))) [ true ↦ on | false ↦ off ] refl

  pub filter-yes : (x : X) (xs : List X) → p x ≡ true → filter p (x ∷ xs) ≡ x ∷ filter p xs
  filter-yes x xs h = ap (λ b. cond b (x ∷ filter p xs) (filter p xs)) h

  pub filter-no : (x : X) (xs : List X) → p x ≡ false → filter p (x ∷ xs) ≡ filter p xs
  filter-no x xs h = ap (λ b. cond b (x ∷ filter p xs) (filter p xs)) h

  pub filter_all : (xs : List X) → Each (λ x. p x ≡ true) xs → filter p xs ≡ xs
  filter_all [] h = refl
  filter_all (x ∷ xs) h = filter-yes x xs h.0 ∙ ap (λ ys. x ∷ ys) (filter_all xs h.1)

  pub filter_none : (xs : List X) → Each (λ x. p x ≡ false) xs → filter p xs ≡ []
  filter_none [] h = refl
  filter_none (x ∷ xs) h = filter-no x xs h.0 ∙ filter_none xs h.1

  pub each_passes : (xs : List X) → Each (λ x. p x ≡ true) (filter p xs)
  each_passes [] = tt
  each_passes (x ∷ xs) = filter_case x xs (Each (λ x. p x ≡ true)) (λ on. (on, each_passes xs)) (λ _. each_passes xs)

-- by places
module _ {X : Type 0} where
  pub numbered_weaker : {P Q : ℕ → X → Type 0} → ((c : ℕ) (x : X) → P c x → Q c x) → (n : ℕ) (xs : List X) → AllNumbered P n xs → AllNumbered Q n xs
  numbered_weaker f n [] h = tt
  numbered_weaker f n (x ∷ xs) h = (f n x h.0, numbered_weaker f (n + 1) xs h.1)

  pub numbered_any : {P : ℕ → X → Type 0} → (n : ℕ) → ((c : ℕ) (x : X) → n ≤ c → P c x) → (xs : List X) → AllNumbered P n xs
  numbered_any n f [] = tt
  numbered_any n f (x ∷ xs) = (f n x (omega arith), numbered_any (n + 1) (λ c x h. f c x (omega arith)) xs)

  pub numbered_map : {Y : Type 0} (P : ℕ → Y → Type 0) (f : X → Y) (n : ℕ) (xs : List X) → AllNumbered (λ c x. P c (f x)) n xs → AllNumbered P n (map f xs)
  numbered_map P f n [] h = tt
  numbered_map P f n (x ∷ xs) h = (h.0, numbered_map P f (n + 1) xs h.1)

  -- where the place doesn't matter
  pub each_of_numbered : (P : X → Type 0) (n : ℕ) (xs : List X) → AllNumbered (λ c x. P x) n xs → Each P xs
  each_of_numbered P n [] h = tt
  each_of_numbered P n (x ∷ xs) h = (h.0, each_of_numbered P (n + 1) xs h.1)
