-- A loop that changes each item of a list in place, by a relation of what an item was to what it becomes.
use Rattle.std.proofs.Common.{◌≡◌, ◌∙◌, ℕ, ◌+◌, ◌<◌, ◌≤◌, zero, suc, Some, List, [], ◌∷◌, map, length, get_or, set, refl, sym, ap, subst, arith, add-one}
use Rattle.std.specs.List.{All, AllByRecursion as Each}
use Rattle.std.proofs.lemmas.List.Elements.{All-from_recursion}

module _ {X : Type 0} (Becomes : X → X → Type 0) where
  -- the first so many items of a list became those of the other, and the rest are the same
  abbrev pub Changed : ℕ → List X → List X → Type 0
  Changed n [] [] = Unit {0}
  Changed n [] (y ∷ ys) = ⊥
  Changed n (x ∷ xs) [] = ⊥
  Changed zero (x ∷ xs) (y ∷ ys) = (x ≡ y) × Changed zero xs ys
  Changed (suc n) (x ∷ xs) (y ∷ ys) = Becomes x y × Changed n xs ys

  pub at_first : (xs : List X) → Changed zero xs xs
  at_first [] = tt
  at_first (x ∷ xs) = (refl, at_first xs)

  -- the next item is as it was
  pub not_yet : (n : ℕ) (xs ys : List X) (item : X) → n < length xs → Changed n xs ys → item ≡ get_or ys n item → item ≡ get_or xs n item
  not_yet n [] [] item h so is = absurd (omega arith)
  not_yet n [] (y ∷ ys) item h so is = absurd so
  not_yet n (x ∷ xs) [] item h so is = absurd so
  not_yet zero (x ∷ xs) (y ∷ ys) item h so is = is ∙ sym so.0
  not_yet (suc n) (x ∷ xs) (y ∷ ys) item h so is = not_yet n xs ys item (omega arith) so.1 is

  one_more : (n : ℕ) (xs ys : List X) (item new : X) → n < length xs → Changed n xs ys → Becomes (get_or ys n item) new → Changed (suc n) xs (set ys n new)
  one_more n [] [] item new h so step = absurd (omega arith)
  one_more n [] (y ∷ ys) item new h so step = absurd so
  one_more n (x ∷ xs) [] item new h so step = absurd so
  one_more zero (x ∷ xs) (y ∷ ys) item new h so step = (subst (λ z. Becomes z new) (sym so.0) step, so.1)
  one_more (suc n) (x ∷ xs) (y ∷ ys) item new h so step = (so.0, one_more n xs ys item new (omega arith) so.1 step)

  -- the next item is changed
  pub changed_next : (n : ℕ) (xs ys : List X) (item new : X) → n < length xs → Changed n xs ys → Becomes (get_or ys n item) new → Changed (n + 1) xs (set ys n new)
  changed_next n xs ys item new h so step = subst (λ k. Changed k xs (set ys n new)) (sym (add-one n)) (one_more n xs ys item new h so step)

  -- all items are changed: what is so of each
  pub all_maps : {Y : Type 0} (f g : X → Y) → ((x y : X) → Becomes x y → f y ≡ g x) → (n : ℕ) (xs ys : List X) → length xs ≤ n → Changed n xs ys → map f ys ≡ map g xs
  all_maps f g each n [] [] h so = refl
  all_maps f g each n [] (y ∷ ys) h so = absurd so
  all_maps f g each n (x ∷ xs) [] h so = absurd so
  all_maps f g each zero (x ∷ xs) (y ∷ ys) h so = absurd (omega arith)
  all_maps f g each (suc n) (x ∷ xs) (y ∷ ys) h so =
      ap (λ z. z ∷ map f ys) (each x y so.0) ∙ ap (λ zs. g x ∷ zs) (all_maps f g each n xs ys (omega arith) so.1)

  all_each : (P : X → Type 0) → ((x y : X) → Becomes x y → P y) → (n : ℕ) (xs ys : List X) → length xs ≤ n → Changed n xs ys → Each P ys
  all_each P each n [] [] h so = tt
  all_each P each n [] (y ∷ ys) h so = absurd so
  all_each P each n (x ∷ xs) [] h so = absurd so
  all_each P each zero (x ∷ xs) (y ∷ ys) h so = absurd (omega arith)
  all_each P each (suc n) (x ∷ xs) (y ∷ ys) h so = (each x y so.0, all_each P each n xs ys (omega arith) so.1)

  pub all_are : (P : X → Type 0) → ((x y : X) → Becomes x y → P y) → (n : ℕ) (xs ys : List X) → length xs ≤ n → Changed n xs ys → All P ys
  all_are P each n xs ys h so = All-from_recursion P ys (all_each P each n xs ys h so)

pub map_some : {X V : Type 0} (f : X → V) (xs : List X) → map (λ x. Some (f x)) xs ≡ map Some (map f xs)
map_some f [] = refl
map_some f (x ∷ xs) = ap (λ ys. Some (f x) ∷ ys) (map_some f xs)
