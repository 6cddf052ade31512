-- A list with one item changed, and what one item gives.
use Rattle.std.proofs.Common.{◌≡◌, ℕ, ◌+◌, ◌<◌, zero, suc, List, [], ◌∷◌, length, get_or, set, refl, ap, subst, arith}
use Rattle.target_law.specs.Cycles.{changed_at, seen_at}
use Rattle.target_law.specs.Numbered.{AllNumbered}

module _ {X : Type 0} (f : X → X) where
  pub length-changed : (k : ℕ) (xs : List X) → length (changed_at k f xs) ≡ length xs
  length-changed zero [] = refl
  length-changed (suc k) [] = refl
  length-changed zero (x ∷ xs) = refl
  length-changed (suc k) (x ∷ xs) = ap suc (length-changed k xs)

  -- what is so of each item stays so
  pub numbered_changed : (P : ℕ → X → Type 0) (n k : ℕ) (xs : List X) → ((c : ℕ) (x : X) → c ≡ n + k → P c x → P c (f x)) → AllNumbered P n xs → AllNumbered P n (changed_at k f xs)
  numbered_changed P n zero [] keeps h = tt
  numbered_changed P n (suc k) [] keeps h = tt
  numbered_changed P n zero (x ∷ xs) keeps h = (keeps n x (omega arith) h.0, h.1)
  numbered_changed P n (suc k) (x ∷ xs) keeps h = (h.0, numbered_changed P (n + 1) k xs (λ c x e. keeps c x (omega arith)) h.1)

  -- the item at the place is the one that changes
  pub changed-set : (k : ℕ) (xs : List X) (d : X) → k < length xs → changed_at k f xs ≡ set xs k (f (get_or xs k d))
  changed-set zero [] d h = absurd (omega arith)
  changed-set (suc k) [] d h = absurd (omega arith)
  changed-set zero (x ∷ xs) d h = refl
  changed-set (suc k) (x ∷ xs) d h = ap (λ ys. x ∷ ys) (changed-set k xs d (omega arith))

module _ {X Y : Type 0} (f : X → Y) (past : Y) where
  -- what is so of whatever is seen
  pub numbered_seen : (Q : Y → Type 0) (P : ℕ → X → Type 0) (n k : ℕ) (xs : List X) → Q past → ((c : ℕ) (x : X) → c ≡ n + k → P c x → Q (f x)) → AllNumbered P n xs → Q (seen_at k f past xs)
  numbered_seen Q P n zero [] out gives h = out
  numbered_seen Q P n (suc k) [] out gives h = out
  numbered_seen Q P n zero (x ∷ xs) out gives h = gives n x (omega arith) h.0
  numbered_seen Q P n (suc k) (x ∷ xs) out gives h = numbered_seen Q P (n + 1) k xs out (λ c x e. gives c x (omega arith)) h.1

  pub seen-get : (k : ℕ) (xs : List X) (d : X) → k < length xs → seen_at k f past xs ≡ f (get_or xs k d)
  seen-get zero [] d h = absurd (omega arith)
  seen-get (suc k) [] d h = absurd (omega arith)
  seen-get zero (x ∷ xs) d h = refl
  seen-get (suc k) (x ∷ xs) d h = seen-get k xs d (omega arith)

module _ {X : Type 0} (P : ℕ → X → Type 0) where
  pub numbered_get : (n i k : ℕ) (xs : List X) (d : X) → k ≡ n + i → i < length xs → AllNumbered P n xs → P k (get_or xs i d)
  numbered_get n i k [] d e h all = absurd (omega arith)
  numbered_get n zero k (x ∷ xs) d e h all = let at : n ≡ k = omega arith in subst (λ m. P m x) at all.0
  numbered_get n (suc i) k (x ∷ xs) d e h all = numbered_get (n + 1) i k xs d (omega arith) (omega arith) all.1

  pub numbered_set : (n i k : ℕ) (xs : List X) (y : X) → k ≡ n + i → P k y → AllNumbered P n xs → AllNumbered P n (set xs i y)
  numbered_set n i k [] y e is all = tt
  numbered_set n zero k (x ∷ xs) y e is all = let at : k ≡ n = omega arith in (subst (λ m. P m y) at is, all.1)
  numbered_set n (suc i) k (x ∷ xs) y e is all = (all.0, numbered_set (n + 1) i k xs y (omega arith) is all.1)
