-- One list in another order: what is so of the one is so of the other.
use Rattle.std.proofs.Common.{◌≡◌, ◌∙◌, List, [], ◌∷◌, ◌++◌, Bool, true, false, cond, sym, ap, subst}
use Rattle.std.specs.List.{filter, AllByRecursion as Each}
use Rattle.std.specs.List.Sorted.{IsPermutation}
use Rattle.std.proofs.lemmas.List.Sorted.{IsPermutation-refl, IsPermutation-cons, IsPermutation-trans, IsPermutation-append_left, IsPermutation-to_front}
use Rattle.target_law.specs.Served.{Perm, none, more, swap, join, Pairwise}
use Rattle.target_law.proofs.Lists.{filter_case, filter-yes, filter-no}

module _ {X : Type 0} where
  pub perm_same : (xs : List X) → Perm X xs xs
  perm_same [] = none
  perm_same (x ∷ xs) = more x (perm_same xs)

  pub perm_of : (xs ys : List X) → xs ≡ ys → Perm X xs ys
  perm_of xs ys e = subst (λ zs. Perm X xs zs) e (perm_same xs)

  pub perm_behind : (xs : List X) {ys zs : List X} → Perm X ys zs → Perm X (xs ++ ys) (xs ++ zs)
  perm_behind [] h = h
  perm_behind (x ∷ xs) h = more x (perm_behind xs h)

  pub perm_before : {xs ys : List X} (zs : List X) → Perm X xs ys → Perm X (xs ++ zs) (ys ++ zs)
  perm_before zs none = perm_same zs
  perm_before zs (more x h) = more x (perm_before zs h)
  perm_before zs (swap x y xs) = swap x y (xs ++ zs)
  perm_before zs (join h k) = join (perm_before zs h) (perm_before zs k)

  -- an item, and a list, go behind another list
  pub perm_middle : (x : X) (zs ws : List X) → Perm X (x ∷ (zs ++ ws)) (zs ++ x ∷ ws)
  perm_middle x [] ws = perm_same (x ∷ ws)
  perm_middle x (z ∷ zs) ws = join (swap x z (zs ++ ws)) (more z (perm_middle x zs ws))

  pub perm_across : (ys zs ws : List X) → Perm X (ys ++ (zs ++ ws)) (zs ++ (ys ++ ws))
  perm_across [] zs ws = perm_same (zs ++ ws)
  perm_across (y ∷ ys) zs ws = join (more y (perm_across ys zs ws)) (perm_middle y zs (ys ++ ws))

  pub perm_back : {xs ys : List X} → Perm X xs ys → Perm X ys xs
  perm_back none = none
  perm_back (more x h) = more x (perm_back h)
  perm_back (swap x y xs) = swap y x xs
  perm_back (join h k) = join (perm_back k) (perm_back h)

  pub perm_each : (P : X → Type 0) {xs ys : List X} → Perm X xs ys → Each P xs → Each P ys
  perm_each P none h = h
  perm_each P (more x k) h = (h.0, perm_each P k h.1)
  perm_each P (swap x y xs) h = (h.1.0, (h.0, h.1.1))
  perm_each P (join k l) h = perm_each P l (perm_each P k h)

  pub perm_pairwise : {R : X → X → Type 0} → ((x y : X) → R x y → R y x) → {xs ys : List X} → Perm X xs ys → Pairwise R xs → Pairwise R ys
  perm_pairwise f none h = h
  perm_pairwise {R} f (more x k) h = (perm_each (R x) k h.0, perm_pairwise f k h.1)
  perm_pairwise f (swap x y xs) h = ((f x y h.0.0, h.1.0), (h.0.1, h.1.1))
  perm_pairwise f (join k l) h = perm_pairwise f l (perm_pairwise f k h)

  perm_filter_more : (p : X → Bool) (x : X) (xs ys : List X) → Perm X (filter p xs) (filter p ys) → Perm X (filter p (x ∷ xs)) (filter p (x ∷ ys))
  perm_filter_more p x xs ys h = elim (p x) as (λ b. Perm X (cond b (x ∷ filter p xs) (filter p xs)) (cond b (x ∷ filter p ys) (filter p ys))) [ true ↦ more x h | false ↦ h ]

  perm_filter_swap : (p : X → Bool) (x y : X) (xs : List X) → Perm X (filter p (x ∷ y ∷ xs)) (filter p (y ∷ x ∷ xs))
  perm_filter_swap p x y xs =
      filter_case p x (y ∷ xs) (λ zs. Perm X zs (filter p (y ∷ x ∷ xs)))
      (λ on. filter_case p y xs (λ zs. Perm X (x ∷ zs) (filter p (y ∷ x ∷ xs)))
      (λ also. subst (λ zs. Perm X (x ∷ y ∷ filter p xs) zs) (ap (λ zs. y ∷ zs) (sym (filter-yes p x xs on)) ∙ sym (filter-yes p y (x ∷ xs) also)) (swap x y (filter p xs)))
      (λ not_also. perm_of _ _ (sym (filter-yes p x xs on) ∙ sym (filter-no p y (x ∷ xs) not_also))))
      (λ off. filter_case p y (x ∷ xs) (λ zs. Perm X (filter p (y ∷ xs)) zs)
      (λ also. perm_of _ _ (filter-yes p y xs also ∙ ap (λ zs. y ∷ zs) (sym (filter-no p x xs off))))
      (λ not_also. perm_of _ _ (filter-no p y xs not_also ∙ sym (filter-no p x xs off))))

  pub perm_filter : (p : X → Bool) {xs ys : List X} → Perm X xs ys → Perm X (filter p xs) (filter p ys)
  perm_filter p none = none
  perm_filter p (more {xs = xs} {ys = ys} x h) = perm_filter_more p x xs ys (perm_filter p h)
  perm_filter p (swap x y xs) = perm_filter_swap p x y xs
  perm_filter p (join h k) = join (perm_filter p h) (perm_filter p k)

  pub perm_is : {xs ys : List X} → Perm X xs ys → IsPermutation xs ys
  perm_is none = IsPermutation-refl []
  perm_is (more {xs = xs} {ys = ys} x h) = IsPermutation-cons x xs ys (perm_is h)
  perm_is (swap x y xs) = IsPermutation-append_left xs (x ∷ y ∷ []) (y ∷ x ∷ []) (IsPermutation-to_front (x ∷ []) y)
  perm_is (join {xs = xs} {ys = ys} {zs = zs} h k) = IsPermutation-trans xs ys zs (perm_is h) (perm_is k)
