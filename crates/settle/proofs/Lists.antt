-- Lists by places, by recursion, and one item after another.
use Rattle.std.proofs.Common.{◌≡◌, ◌∙◌, ◌⊎◌, inl, inr, ℕ, ◌+◌, ◌<◌, ◌≤◌, zero, suc, List, [], ◌∷◌, ◌++◌, map, Some, length, drop, slice_get, get_or, refl, sym, ap, subst, arith}
use Rattle.std.specs.List.{AllByRecursion as Each}
use Rattle.std.proofs.lemmas.Option.{none-some, same_Some, slice_get_within, slice_get-get_or}
use Rattle.target_law.specs.Numbered.{AllNumbered}
use Rattle.target_law.specs.Served.{Pairwise}
use Rattle.target_law.proofs.Places.{numbered_get}
use Rattle.drive_script.specs.Worlds.{oldest, younger}
use Rattle.drive_script.proofs.Places.{Along}

-- the first of what is left
pub drop_first : {X : Type 0} (k : ℕ) (xs : List X) (x : X) (ys : List X) → x ∷ ys ≡ drop k xs → slice_get xs k ≡ Some x
drop_first zero [] x ys e = absurd (none-some x (sym (ap oldest e)))
drop_first (suc k) [] x ys e = absurd (none-some x (sym (ap oldest e)))
drop_first zero (z ∷ xs) x ys e = sym (ap oldest e)
drop_first (suc k) (z ∷ xs) x ys e = drop_first k xs x ys e

-- what is left behind it
pub drop_rest : {X : Type 0} (k : ℕ) (xs : List X) (x : X) (ys : List X) → x ∷ ys ≡ drop k xs → ys ≡ drop (suc k) xs
drop_rest zero [] x ys e = absurd (none-some x (sym (ap oldest e)))
drop_rest (suc k) [] x ys e = absurd (none-some x (sym (ap oldest e)))
drop_rest zero (z ∷ xs) x ys e = ap younger e
drop_rest (suc k) (z ∷ xs) x ys e = drop_rest k xs x ys e

-- nothing is left
pub drop_none : {X : Type 0} (k : ℕ) (xs : List X) → [] ≡ drop k xs → length xs ≤ k
drop_none k [] e = omega arith
drop_none zero (x ∷ xs) e = absurd (none-some x (ap oldest e))
drop_none (suc k) (x ∷ xs) e = let h = drop_none k xs e in omega arith

-- what stands at a place after a push
pub get_push_cases : {X : Type 0} (xs : List X) (j : ℕ) (v y : X) → slice_get (xs ++ v ∷ []) j ≡ Some y → (slice_get xs j ≡ Some y) ⊎ ((j ≡ length xs) × (v ≡ y))
get_push_cases [] zero v y e = inr (refl, same_Some v y e)
get_push_cases [] (suc j) v y e = absurd (none-some y e)
get_push_cases (x ∷ xs) zero v y e = inl e
get_push_cases (x ∷ xs) (suc j) v y e = elim (get_push_cases xs j v y e) [ inl p ↦ inl p | inr p ↦ inr (ap suc p.0, p.1) ]

-- inside a list there is an item
pub get_in : {X : Type 0} (xs : List X) (i : ℕ) → i < length xs → (x : X) × (slice_get xs i ≡ Some x)
get_in [] i lt = absurd (omega arith)
get_in (x ∷ xs) zero lt = (x, refl)
get_in (x ∷ xs) (suc i) lt = get_in xs i (omega arith)

-- an item of a list of others
pub get_map : {X Y : Type 0} (f : X → Y) (xs : List X) (i : ℕ) (x : X) → slice_get xs i ≡ Some x → slice_get (map f xs) i ≡ Some (f x)
get_map f [] i x e = absurd (none-some x e)
get_map f (z ∷ xs) zero x e = ap Some (ap f (same_Some z x e))
get_map f (z ∷ xs) (suc i) x e = get_map f xs i x e

-- what is so of all is so of the last
pub each_last : {X : Type 0} (P : X → Type 0) (xs ys : List X) → Each P (xs ++ ys) → Each P ys
each_last P [] ys h = h
each_last P (x ∷ xs) ys h = each_last P xs ys h.1

pub pairwise_last : {X : Type 0} (R : X → X → Type 0) (xs ys : List X) → Pairwise R (xs ++ ys) → Pairwise R ys
pairwise_last R [] ys h = h
pairwise_last R (x ∷ xs) ys h = pairwise_last R xs ys h.1

-- by recursion, and by places
pub numbered_at : {X : Type 0} (P : ℕ → X → Type 0) (xs : List X) (i : ℕ) (x : X) → AllNumbered P 0 xs → slice_get xs i ≡ Some x → P i x
numbered_at P xs i x all at =
    let within : i < length xs = slice_get_within xs i x at in
    subst (P i) (same_Some (get_or xs i x) x (sym (slice_get-get_or xs i x within) ∙ at)) (numbered_get P 0 i i xs x (omega arith) within all)

pub numbered_of : {X : Type 0} (P : ℕ → X → Type 0) (n : ℕ) (xs : List X) → ((i : ℕ) (x : X) → slice_get xs i ≡ Some x → P (n + i) x) → AllNumbered P n xs
numbered_of P n [] at = tt
numbered_of P n (x ∷ xs) at = (
  let here : n + 0 ≡ n = omega arith in subst (λ k. P k x) here (at 0 x refl),
  numbered_of P (n + 1) xs (λ i y e. let there : n + suc i ≡ n + 1 + i = omega arith in subst (λ k. P k y) there (at (suc i) y e)),
)

pub along_of : {X Y : Type 0} (R : ℕ → X → Y → Type 0) (n : ℕ) (xs : List X) (ys : List Y) → length ys ≡ length xs
    → ((i : ℕ) (x : X) (y : Y) → slice_get xs i ≡ Some x → slice_get ys i ≡ Some y → R (n + i) x y) → Along R n xs ys
along_of R n [] [] count at = tt
along_of R n [] (y ∷ ys) count at = absurd (omega (arith, count))
along_of R n (x ∷ xs) [] count at = absurd (omega (arith, count))
along_of R n (x ∷ xs) (y ∷ ys) count at = (
  let here : n + 0 ≡ n = omega arith in subst (λ k. R k x y) here (at 0 x y refl refl),
  along_of R (n + 1) xs ys (omega (arith, count)) (λ i a b ea eb. let there : n + suc i ≡ n + 1 + i = omega arith in subst (λ k. R k a b) there (at (suc i) a b ea eb)),
)

pub along_count : {X Y : Type 0} (R : ℕ → X → Y → Type 0) (n : ℕ) (xs : List X) (ys : List Y) → Along R n xs ys → length ys ≡ length xs
along_count R n [] [] h = refl
along_count R n [] (y ∷ ys) h = absurd h
along_count R n (x ∷ xs) [] h = absurd h
along_count R n (x ∷ xs) (y ∷ ys) h = ap suc (along_count R (n + 1) xs ys h.1)

-- a fact of two items at a place that doesn't depend on the place
pub along_at : {X Y : Type 0} (R : X → Y → Type 0) (n i : ℕ) (xs : List X) (ys : List Y) (x : X) (y : Y) → Along (λ _. R) n xs ys → slice_get xs i ≡ Some x → slice_get ys i ≡ Some y → R x y
along_at R n i [] [] x y h ex ey = absurd (none-some x ex)
along_at R n i [] (b ∷ ys) x y h ex ey = absurd h
along_at R n i (a ∷ xs) [] x y h ex ey = absurd h
along_at R n zero (a ∷ xs) (b ∷ ys) x y h ex ey = subst (R x) (same_Some b y ey) (subst (λ z. R z b) (same_Some a x ex) h.0)
along_at R n (suc i) (a ∷ xs) (b ∷ ys) x y h ex ey = along_at R (n + 1) i xs ys x y h.1 ex ey
