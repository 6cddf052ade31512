-- A list with one value changed, seen from before and from after the change.
use Rattle.std.proofs.Common.{◌≡◌, ◌≢◌, ◌∙◌, ℕ, ◌+◌, zero, suc, ◌≤◌, List, [], ◌∷◌, ◌++◌, Option, None, refl, sym, ap, arith, append_assoc}
use Rattle.target_law.specs.Cycles.{changed_at, seen_at}
use Rattle.target_law.specs.Numbered.{AllNumbered}
use Rattle.target_law.specs.Served.{Perm, none, join}
use Rattle.target_law.proofs.Lists.{numbered_any}
use Rattle.violation_watch.proofs.Lists.{map_from, flat_map_from, map_from_agree, flat_map_from_agree}
use Rattle.violation_watch.proofs.Perms.{perm_of, perm_behind, perm_across}

numbered_later : {X : Type 0} (P Q : ℕ → X → Type 0) (n : ℕ) (xs : List X) → ((c : ℕ) (x : X) → n ≤ c → P c x → Q c x) → AllNumbered P n xs → AllNumbered Q n xs
numbered_later P Q n [] f h = tt
numbered_later P Q n (x ∷ xs) f h = (f n x (omega arith) h.0, numbered_later P Q (n + 1) xs (λ c x l. f c x (omega arith)) h.1)

module _ {X : Type 0} (f : X → X) where
  -- what is so of each value after the change was so before it, where nothing was seen
  pub numbered_before : {Z : Type 0} (g : X → Option Z) (P Q : ℕ → X → Type 0) (n k : ℕ) (xs : List X)
      → ((c : ℕ) (x : X) → c ≡ n + k → g x ≡ None → P c (f x) → Q c x) → ((c : ℕ) (x : X) → c ≢ n + k → P c x → Q c x)
      → seen_at k g None xs ≡ None → AllNumbered P n (changed_at k f xs) → AllNumbered Q n xs
  numbered_before g P Q n zero [] here other unseen h = tt
  numbered_before g P Q n (suc k) [] here other unseen h = tt
  numbered_before g P Q n zero (x ∷ xs) here other unseen h =
      (here n x (omega arith) unseen h.0, numbered_later P Q (n + 1) xs (λ c x l. other c x (omega arith)) h.1)
  numbered_before g P Q n (suc k) (x ∷ xs) here other unseen h =
      (other n x (omega arith) h.0, numbered_before g P Q (n + 1) k xs (λ c x e. here c x (omega arith)) (λ c x e. other c x (omega arith)) unseen h.1)

  module _ {Z : Type 0} where
    -- a function of each value, where F after the change is G before it
    pub map_from-changed : (F G : ℕ → X → Z) (n k : ℕ) (xs : List X) → ((c : ℕ) (x : X) → c ≡ n + k → F c (f x) ≡ G c x) → ((c : ℕ) (x : X) → c ≢ n + k → F c x ≡ G c x)
        → map_from F n (changed_at k f xs) ≡ map_from G n xs
    map_from-changed F G n zero [] here other = refl
    map_from-changed F G n (suc k) [] here other = refl
    map_from-changed F G n zero (x ∷ xs) here other =
        ap (λ z. z ∷ map_from F (n + 1) xs) (here n x (omega arith))
        ∙ ap (λ zs. G n x ∷ zs) (map_from_agree F G (n + 1) xs (numbered_any (n + 1) (λ c x l. other c x (omega arith)) xs))
    map_from-changed F G n (suc k) (x ∷ xs) here other =
        ap (λ z. z ∷ map_from F (n + 1) (changed_at k f xs)) (other n x (omega arith))
        ∙ ap (λ zs. G n x ∷ zs) (map_from-changed F G (n + 1) k xs (λ c x e. here c x (omega arith)) (λ c x e. other c x (omega arith)))

-- lists made of each value, and what is seen of the changed one in front
module _ {X Y : Type 0} (f : X → X) (g : X → List Y) where
  pub flat_map_from_changed : (F G : ℕ → X → List Y) (n k : ℕ) (xs : List X) → ((c : ℕ) (x : X) → c ≡ n + k → g x ++ F c (f x) ≡ G c x) → ((c : ℕ) (x : X) → c ≢ n + k → F c x ≡ G c x)
      → Perm Y (seen_at k g [] xs ++ flat_map_from F n (changed_at k f xs)) (flat_map_from G n xs)
  flat_map_from_changed F G n zero [] here other = none
  flat_map_from_changed F G n (suc k) [] here other = none
  flat_map_from_changed F G n zero (x ∷ xs) here other =
      perm_of _ _ (sym (append_assoc (g x) (F n (f x)) (flat_map_from F (n + 1) xs))
      ∙ ap (λ zs. zs ++ flat_map_from F (n + 1) xs) (here n x (omega arith))
      ∙ ap (λ zs. G n x ++ zs) (flat_map_from_agree F G (n + 1) xs (numbered_any (n + 1) (λ c x l. other c x (omega arith)) xs)))
  flat_map_from_changed F G n (suc k) (x ∷ xs) here other =
      join (perm_across (seen_at k g [] xs) (F n x) (flat_map_from F (n + 1) (changed_at k f xs)))
      (join (perm_behind (F n x) (flat_map_from_changed F G (n + 1) k xs (λ c x e. here c x (omega arith)) (λ c x e. other c x (omega arith))))
      (perm_of _ _ (ap (λ zs. zs ++ flat_map_from G (n + 1) xs) (other n x (omega arith)))))
