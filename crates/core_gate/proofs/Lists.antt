-- What stands at a place of a list that was written to, or that has one item more.
use Rattle.std.proofs.Common.{◌≡◌, ℕ, zero, suc, ◌<◌, ◌≤◌, ◌≢◌, ◌⊎◌, List, [], ◌∷◌, ◌++◌, length, Some, slice_get, slice_index, slice_set, ap, sym, refl, subst, ⊎_elim, inl, inr, arith, le_refl}
use mathlib.Core.Option.{some, some-ne-none, some-injective}
use lib.ListN.{get_elem?}

-- what holds of each item of a list and its place holds where it holds of one more
pub each_more : {X : Type 0} (P : ℕ → X → Type 0) (xs : List X) (x : X) → ((i : ℕ) (p : X) → slice_get xs i ≡ Some p → P i p) → P (length xs) x
    → (i : ℕ) (p : X) → slice_get (xs ++ x ∷ []) i ≡ Some p → P i p
each_more P [] x all here zero p e = let same : x ≡ p = cc in subst (λ y. P 0 y) same here
each_more P [] x all here (suc i) p e = cc
each_more P (y ∷ ys) x all here zero p e = all zero p e
each_more P (y ∷ ys) x all here (suc i) p e = each_more (λ j. P (suc j)) ys x (λ j q f. all (suc j) q f) here i p e

pub within : {A : Type 0} (l : List A) (i : ℕ) (a : A) → get_elem? l i ≡ some a → i < length l
within [] i a e = absurd (some-ne-none a (sym e))
within (x ∷ xs) zero a e = omega arith
within (x ∷ xs) (suc i) a e = let h = within xs i a e in omega arith

-- what an index of a written list has
pub index_set : (l : List ℕ) (i j n : ℕ) → i < length l → ((j ≡ i) × (slice_index (slice_set l i n) j ≡ n)) ⊎ ((j ≢ i) × (slice_index (slice_set l i n) j ≡ slice_index l j))
index_set [] i j n h = absurd (omega arith)
index_set (x ∷ xs) zero zero n h = inl (refl, refl)
index_set (x ∷ xs) zero (suc j) n h = inr ((λ e. omega arith), refl)
index_set (x ∷ xs) (suc i) zero n h = inr ((λ e. omega arith), refl)
index_set (x ∷ xs) (suc i) (suc j) n h = ⊎_elim (λ t. inl (ap suc t.0, t.1)) (λ t. let d = t.0 in inr ((λ e. d (omega arith)), t.1)) (index_set xs i j n (omega arith))

-- no number falls where one of them is written over by a number no less
pub grown : (l : List ℕ) (i j n : ℕ) → i < length l → slice_index l i ≤ n → slice_index l j ≤ slice_index (slice_set l i n) j
grown l i j n inside up =
    ⊎_elim (λ (t : (j ≡ i) × (slice_index (slice_set l i n) j ≡ n)). rw (t.1, t.0) up)
    (λ (t : (j ≢ i) × (slice_index (slice_set l i n) j ≡ slice_index l j)). rw t.1 (le_refl (slice_index l j)))
    (index_set l i j n inside)

-- a number that bounds from below may be written over by another that does
pub bounded_set : (low : List ℕ) (place c n bound : ℕ) → place < length low → slice_index low c ≤ bound → (c ≡ place → n ≤ bound)
    → slice_index (slice_set low place n) c ≤ bound
bounded_set low place c n bound inside was here =
    ⊎_elim (λ (t : (c ≡ place) × (slice_index (slice_set low place n) c ≡ n)). rw t.1 (here t.0))
    (λ (t : (c ≢ place) × (slice_index (slice_set low place n) c ≡ slice_index low c)). rw t.1 was)
    (index_set low place c n inside)

pub at_end : {A : Type 0} (l : List A) (a b : A) (j : ℕ) → get_elem? (l ++ a ∷ []) j ≡ some b → (get_elem? l j ≡ some b) ⊎ ((j ≡ length l) × (a ≡ b))
at_end [] a b zero e = inr (refl, some-injective a b e)
at_end [] a b (suc j) e = absurd (some-ne-none b (sym e))
at_end (x ∷ xs) a b zero e = inl e
at_end (x ∷ xs) a b (suc j) e = ⊎_elim (λ t. inl t) (λ t. inr (ap suc t.0, t.1)) (at_end xs a b j e)
