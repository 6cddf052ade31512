-- What is so of the items of lists, after a write and through a list in between.
use Rattle.std.proofs.Common.{◌≡◌, ◌≢◌, ℕ, zero, suc, ◌<◌, ◌⊎◌, inl, inr, List, [], ◌∷◌, Some, length, slice_get, get_or, set, sym, ◌∙◌, ap, subst, refl, arith}
use Rattle.std.proofs.lemmas.List.{length-set}
use Rattle.std.proofs.lemmas.Option.{same_Some, none-some, slice_get_within, slice_get-get_or}
use Rattle.manager.specs.Places.{EachPlace, PlacePairs}

-- what stands at a place after a write
pub get_set_cases : {X : Type 0} (xs : List X) (i j : ℕ) (v y : X) → slice_get (set xs i v) j ≡ Some y → ((j ≡ i) × (v ≡ y)) ⊎ ((j ≢ i) × (slice_get xs j ≡ Some y))
get_set_cases [] i j v y e = absurd (none-some y e)
get_set_cases (x ∷ xs) zero zero v y e = inl (refl, same_Some v y e)
get_set_cases (x ∷ xs) zero (suc j) v y e = inr ((λ q. omega arith), e)
get_set_cases (x ∷ xs) (suc i) zero v y e = inr ((λ q. omega arith), e)
get_set_cases (x ∷ xs) (suc i) (suc j) v y e =
    elim (get_set_cases xs i j v y e) [ inl p ↦ inl (ap suc p.0, p.1) | inr p ↦ inr ((λ q. p.0 (omega arith)), p.1) ]

-- inside a list there is an item
get_in : {X : Type 0} (xs : List X) (i : ℕ) → i < length xs → (x : X) × (slice_get xs i ≡ Some x)
get_in [] i lt = absurd (omega arith)
get_in (x ∷ xs) zero lt = (x, refl)
get_in (x ∷ xs) (suc i) lt = get_in xs i (omega arith)

-- what an access by place read
pub get_read : {X : Type 0} (xs : List X) (i : ℕ) (x : X) → i < length xs → x ≡ get_or xs i x → slice_get xs i ≡ Some x
get_read xs i x lt e = slice_get-get_or xs i x lt ∙ ap Some (sym e)

pub pairs_same : {X : Type 0} (R : ℕ → X → X → Type 0) (xs : List X) → ((i : ℕ) (x : X) → R i x x) → PlacePairs R xs xs
pairs_same R xs f = record { count = refl; at = λ i x y ex ey. subst (λ y. R i x y) (same_Some x y (sym ex ∙ ey)) (f i x) }

-- one item was written
pub pairs_set : {X : Type 0} (R : ℕ → X → X → Type 0) (xs : List X) (k : ℕ) (x y : X) → slice_get xs k ≡ Some x → R k x y → ((i : ℕ) (z : X) → i ≢ k → R i z z) → PlacePairs R xs (set xs k y)
pairs_set R xs k x y at here other = record {
  count = length-set xs k y;
  at = λ i a b ea eb. elim (get_set_cases xs k i y b eb) [
    | inl q ↦
        let same : x ≡ a = same_Some x a (sym at ∙ subst (λ n. slice_get xs n ≡ Some a) q.0 ea) in
        subst (λ b. R i a b) q.1 (subst (λ a. R i a y) same (subst (λ n. R n x y) (sym q.0) here))
    | inr q ↦ subst (λ b. R i a b) (same_Some a b (sym ea ∙ q.1)) (other i a q.0)
  ];
}

pub pairs_weaker : {X Y : Type 0} (R S : ℕ → X → Y → Type 0) (xs : List X) (ys : List Y) → ((i : ℕ) (x : X) (y : Y) → R i x y → S i x y) → PlacePairs R xs ys → PlacePairs S xs ys
pairs_weaker R S xs ys f h = record { count = h.count; at = λ i x y ex ey. f i x y (h.at i x y ex ey) }

pub pairs_then : {X Y Z : Type 0} (R : ℕ → X → Y → Type 0) (S : ℕ → Y → Z → Type 0) (Q : ℕ → X → Z → Type 0) (xs : List X) (ys : List Y) (zs : List Z)
    → ((i : ℕ) (x : X) (y : Y) (z : Z) → R i x y → S i y z → Q i x z) → PlacePairs R xs ys → PlacePairs S ys zs → PlacePairs Q xs zs
pairs_then R S Q xs ys zs f h k = record {
  count = k.count ∙ h.count;
  at = λ i x z ex ez.
      let w = slice_get_within xs i x ex in let c = h.count in
      let y = get_in ys i (omega arith) in
      f i x y.0 z (h.at i x y.0 ex y.1) (k.at i y.0 z y.1 ez);
}

-- what is so of each item of the first list gives what is so of each of the second
pub each_along : {X Y : Type 0} (P : ℕ → X → Type 0) (R : ℕ → X → Y → Type 0) (Q : ℕ → Y → Type 0) (xs : List X) (ys : List Y)
    → ((i : ℕ) (x : X) (y : Y) → P i x → R i x y → Q i y) → EachPlace P xs → PlacePairs R xs ys → EachPlace Q ys
each_along P R Q xs ys f h k = record {
  at = λ i y ey.
      let w = slice_get_within ys i y ey in let c = k.count in
      let x = get_in xs i (omega arith) in
      f i x.0 y (h.at i x.0 x.1) (k.at i x.0 y x.1 ey);
}
