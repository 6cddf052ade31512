-- Lists whose items are numbered by their places.
use Rattle.std.specs.Prelude.{ℕ, ◌+◌, List, [], ◌∷◌}

-- P holds of the items with the numbers n, n + 1 and so on
abbrev pub AllNumbered : {X : Type 0} → (ℕ → X → Type 0) → ℕ → List X → Type 0
AllNumbered P n [] = Unit {0}
AllNumbered P n (x ∷ xs) = P n x × AllNumbered P (n + 1) xs

-- the same of the items of three lists at the same places; the lists are equally long
abbrev pub AllNumberedTriples : {X Y Z : Type 0} → (ℕ → X → Y → Z → Type 0) → ℕ → List X → List Y → List Z → Type 0
AllNumberedTriples P n [] [] [] = Unit {0}
AllNumberedTriples P n [] [] (z ∷ zs) = ⊥
AllNumberedTriples P n [] (y ∷ ys) zs = ⊥
AllNumberedTriples P n (x ∷ xs) [] zs = ⊥
AllNumberedTriples P n (x ∷ xs) (y ∷ ys) [] = ⊥
AllNumberedTriples P n (x ∷ xs) (y ∷ ys) (z ∷ zs) = P n x y z × AllNumberedTriples P (n + 1) xs ys zs
