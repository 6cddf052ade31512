-- What is so of a numbered list's items, seen through what contracts see of them, is so of the one at a place.
use Rattle.std.proofs.Common.{◌≡◌, ◌∙◌, ℕ, ◌<◌, List, map, length, get_or, sym, ap, subst, arith}
use Rattle.std.proofs.lemmas.List.{length-map}
use Rattle.target_law.specs.Numbered.{AllNumbered}
use Rattle.target_law.proofs.Loops.{get-map}
use Rattle.target_law.proofs.Places.{numbered_get}

pub numbered_at : {X V : Type 0} (view : X → V) (P : ℕ → V → Type 0) (xs : List X) (i : ℕ) (item now : X) → i < length xs
    → item ≡ get_or xs i item → item ≡ now → AllNumbered P 0 (map view xs) → P i (view now)
numbered_at view P xs i item now within is here all =
    subst (P i) (get-map view xs i item ∙ ap view (sym is) ∙ ap view here)
    (numbered_get P 0 i i (map view xs) (view item) (omega arith) (subst (λ n. i < n) (sym (length-map xs view)) within) all)
