-- Segments behind references, in the order of their addresses.
use Rattle.std.proofs.Common.{◌≡◌, ℕ, ◌<◌, List, [], ◌∷◌, map, length, get_or, All, ap, subst, arith}
use Rattle.std.specs.List.Sorted.{IsNonDecreasingBy}
use Rattle.std.proofs.lemmas.List.{get_or-map, length-map}

module _ {X Y : Type 0} (f : X → Y) (n : Y → ℕ) where
  -- what does not fall along a list does not fall along what is made of it
  pub IsNonDecreasingBy-map : (xs : List X) → IsNonDecreasingBy (λ x. n (f x)) xs → IsNonDecreasingBy n (map f xs)
  IsNonDecreasingBy-map [] up i j d le lt = absurd (omega arith)
  IsNonDecreasingBy-map (x ∷ xs) up i j d le lt =
      let below : j < length (x ∷ xs) = omega (arith, length-map (x ∷ xs) f) in
      let first : get_or (map f (x ∷ xs)) i d ≡ f (get_or (x ∷ xs) i x) = get_or-map f (x ∷ xs) i x d (omega arith) in
      let second : get_or (map f (x ∷ xs)) j d ≡ f (get_or (x ∷ xs) j x) = get_or-map f (x ∷ xs) j x d below in
      omega (arith, up i j x le below, ap n first, ap n second)

-- what holds of each that is made of a list, as a fact of the list
pub All-from_map : {X Y : Type 0} (P : Y → Type 0) (f : X → Y) (xs : List X) → All P (map f xs) → All (λ x. P (f x)) xs
All-from_map P f xs all k d lt =
    subst P (get_or-map f xs k d (f d) lt) (all k (f d) (omega (arith, lt, length-map xs f)))
