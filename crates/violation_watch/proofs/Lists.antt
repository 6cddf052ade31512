-- More facts of each item, of each two items and of items by their places, and of what a filter keeps.
use Rattle.std.proofs.Common.{◌≡◌, ◌∙◌, ⊎_elim, ℕ, ◌+◌, ◌<◌, ◌≤◌, List, [], ◌∷◌, ◌++◌, length, map, Bool, false, not, cond, refl, sym, ap, subst, arith}
use Rattle.std.specs.List.{filter, flat_map, AllByRecursion as Each}
use Rattle.std.proofs.lemmas.Bool.{cases_lt}
use Rattle.target_law.specs.Numbered.{AllNumbered}
use Rattle.target_law.specs.Served.{Pairwise}
use Rattle.target_law.proofs.Lists.{each_weaker, filter_case, filter-yes, filter-no, filter_all, filter_none}

-- each
module _ {X : Type 0} where
  pub each_both : (P Q : X → Type 0) (xs : List X) → Each P xs → Each Q xs → Each (λ x. P x × Q x) xs
  each_both P Q [] h k = tt
  each_both P Q (x ∷ xs) h k = ((h.0, k.0), each_both P Q xs h.1 k.1)

module _ {X : Type 0} where
  pub pairwise_weaker : {R S : X → X → Type 0} → ((x y : X) → R x y → S x y) → (xs : List X) → Pairwise R xs → Pairwise S xs
  pairwise_weaker f [] h = tt
  pairwise_weaker f (x ∷ xs) h = (each_weaker (f x) xs h.0, pairwise_weaker f xs h.1)

  -- the facts of the first part's items with the one behind it
  pub pairwise_last : (R : X → X → Type 0) (xs : List X) (y : X) (ys : List X) → Pairwise R (xs ++ y ∷ ys) → Each (λ x. R x y) xs
  pairwise_last R [] y ys h = tt
  pairwise_last R (x ∷ xs) y ys h = (each_at (R x) xs y ys h.0, pairwise_last R xs y ys h.1)
    where
      each_at : (P : X → Type 0) (xs : List X) (y : X) (ys : List X) → Each P (xs ++ y ∷ ys) → P y
      each_at P [] y ys h = h.0
      each_at P (x ∷ xs) y ys h = each_at P xs y ys h.1

  -- the second part's items with those of the first
  pub pairwise_across : (R : X → X → Type 0) (xs ys : List X) → Pairwise R (xs ++ ys) → Each (λ y. Each (λ x. R x y) xs) ys
  pairwise_across R xs [] h = tt
  pairwise_across R xs (y ∷ ys) h = (pairwise_last R xs y ys h, pairwise_across R xs ys (without R xs y ys h))
    where
      skip : (P : X → Type 0) (xs : List X) (y : X) (ys : List X) → Each P (xs ++ y ∷ ys) → Each P (xs ++ ys)
      skip P [] y ys h = h.1
      skip P (x ∷ xs) y ys h = (h.0, skip P xs y ys h.1)

      without : (R : X → X → Type 0) (xs : List X) (y : X) (ys : List X) → Pairwise R (xs ++ y ∷ ys) → Pairwise R (xs ++ ys)
      without R [] y ys h = h.1
      without R (x ∷ xs) y ys h = (skip (R x) xs y ys h.0, without R xs y ys h.1)

  pub pairwise_with : (P : X → Type 0) (R : X → X → Type 0) (xs : List X) → Each P xs → Pairwise R xs → Pairwise (λ x y. P x × P y × R x y) xs
  pairwise_with P R [] h k = tt
  pairwise_with P R (x ∷ xs) h k =
      (each_weaker (λ y both. (h.0, both.0, both.1)) xs (each_both P (R x) xs h.1 k.0), pairwise_with P R xs h.1 k.1)

-- filters
module _ {X : Type 0} (p : X → Bool) where
  pub each_filter : (P : X → Type 0) (xs : List X) → Each P xs → Each P (filter p xs)
  each_filter P [] h = tt
  each_filter P (x ∷ xs) h = filter_case p x xs (Each P) (λ _. (h.0, each_filter P xs h.1)) (λ _. each_filter P xs h.1)

  -- a fact of those that pass, where it is one of the others anyway
  pub each_from_filter : {Q : X → Type 0} (xs : List X) → ((x : X) → p x ≡ false → Q x) → Each Q (filter p xs) → Each Q xs
  each_from_filter [] other h = tt
  each_from_filter {Q} (x ∷ xs) other h =
      filter_case p x xs (λ ys. Each Q ys → Each Q (x ∷ xs))
      (λ _ h. (h.0, each_from_filter xs other h.1))
      (λ off h. (other x off, each_from_filter xs other h)) h

  pub pairwise_filter : (R : X → X → Type 0) (xs : List X) → Pairwise R xs → Pairwise R (filter p xs)
  pairwise_filter R [] h = tt
  pairwise_filter R (x ∷ xs) h = filter_case p x xs (Pairwise R) (λ _. (each_filter (R x) xs h.0, pairwise_filter R xs h.1)) (λ _. pairwise_filter R xs h.1)

  pub filter_agree_each : (q : X → Bool) (xs : List X) → Each (λ x. p x ≡ q x) xs → filter p xs ≡ filter q xs
  filter_agree_each q [] h = refl
  filter_agree_each q (x ∷ xs) h =
      ap (λ b. cond b (x ∷ filter p xs) (filter p xs)) h.0 ∙ ap (λ ys. cond (q x) (x ∷ ys) ys) (filter_agree_each q xs h.1)

-- what passes p passes q too
pub filter_within : {X : Type 0} (p q : X → Bool) → ((x : X) → q x ≡ false → p x ≡ false) → (xs : List X) → filter p (filter q xs) ≡ filter p xs
filter_within p q f [] = refl
filter_within p q f (x ∷ xs) =
    filter_case q x xs (λ ys. filter p ys ≡ filter p (x ∷ xs))
    (λ on. ap (λ ys. cond (p x) (x ∷ ys) ys) (filter_within p q f xs))
    (λ off. filter_within p q f xs ∙ sym (filter-no p x xs (f x off)))

pub none_pass : {X : Type 0} (p : X → Bool) (xs : List X) → filter p xs ≡ [] → Each (λ x. p x ≡ false) xs
none_pass p [] h = tt
none_pass p (x ∷ xs) h =
    filter_case p x xs (λ ys. ys ≡ [] → Each (λ x. p x ≡ false) (x ∷ xs))
    (λ on e. cc)
    (λ off e. (off, none_pass p xs e)) h

pub filter_swap : {X : Type 0} (p q : X → Bool) (xs : List X) → filter p (filter q xs) ≡ filter q (filter p xs)
filter_swap p q [] = refl
filter_swap p q (x ∷ xs) =
    filter_case q x xs (λ ys. filter p ys ≡ filter q (filter p (x ∷ xs)))
    (λ on. filter_case p x xs (λ ys. filter p (x ∷ filter q xs) ≡ filter q ys)
    (λ also. filter-yes p x (filter q xs) also ∙ ap (λ ys. x ∷ ys) (filter_swap p q xs) ∙ sym (filter-yes q x (filter p xs) on))
    (λ not_also. filter-no p x (filter q xs) not_also ∙ filter_swap p q xs))
    (λ off. filter_case p x xs (λ ys. filter p (filter q xs) ≡ filter q ys)
    (λ also. filter_swap p q xs ∙ sym (filter-no q x (filter p xs) off))
    (λ not_also. filter_swap p q xs))

-- a list is those that pass and then the others, where none that passes comes after another
pub filter_parts : {X : Type 0} (p : X → Bool) (xs : List X) → Pairwise (λ x y. p x ≡ false → p y ≡ false) xs → xs ≡ filter p xs ++ filter (λ x. not (p x)) xs
filter_parts p [] h = refl
filter_parts p (x ∷ xs) h =
    filter_case p x xs (λ ys. x ∷ xs ≡ ys ++ filter (λ x. not (p x)) (x ∷ xs))
    (λ on. ap (λ ys. x ∷ ys) (filter_parts p xs h.1) ∙ ap (λ ys. x ∷ (filter p xs ++ ys)) (sym (filter-no (λ x. not (p x)) x xs (ap not on))))
    (λ off.
    let none : Each (λ y. p y ≡ false) xs = each_weaker (λ y f. f off) xs h.0 in
    sym (filter_all (λ x. not (p x)) (x ∷ xs) (ap not off, each_weaker (λ y e. ap not e) xs none))
    ∙ ap (λ ys. ys ++ filter (λ x. not (p x)) (x ∷ xs)) (sym (filter_none p xs none)))

-- by places
pub less_or : {Y : Type 0} (m n : ℕ) → (m < n → Y) → (n ≤ m → Y) → Y
less_or m n f g = ⊎_elim f g (cases_lt m n)

pub at_or_after : {Y : Type 0} (n c : ℕ) → n ≤ c → (n ≡ c → Y) → (n + 1 ≤ c → Y) → Y
at_or_after n c l f g = less_or n c (λ h. g (omega arith)) (λ h. f (omega arith))

abbrev pub map_from : {X Y : Type 0} → (ℕ → X → Y) → ℕ → List X → List Y
map_from f n [] = []
map_from f n (x ∷ xs) = f n x ∷ map_from f (n + 1) xs

abbrev pub flat_map_from : {X Y : Type 0} → (ℕ → X → List Y) → ℕ → List X → List Y
flat_map_from f n [] = []
flat_map_from f n (x ∷ xs) = f n x ++ flat_map_from f (n + 1) xs

module _ {X : Type 0} where
  pub numbered_both : (P Q : ℕ → X → Type 0) (n : ℕ) (xs : List X) → AllNumbered P n xs → AllNumbered Q n xs → AllNumbered (λ c x. P c x × Q c x) n xs
  numbered_both P Q n [] h k = tt
  numbered_both P Q n (x ∷ xs) h k = ((h.0, k.0), numbered_both P Q (n + 1) xs h.1 k.1)

  pub numbered_at : (P : ℕ → X → Type 0) (n : ℕ) (xs : List X) (c : ℕ) → n ≤ c → c < n + length xs → AllNumbered P n xs → (x : X) × P c x
  numbered_at P n [] c low high h = absurd (omega arith)
  numbered_at P n (x ∷ xs) c low high h =
      at_or_after n c low (λ e. (x, subst (λ m. P m x) e h.0)) (λ l. numbered_at P (n + 1) xs c l (omega arith) h.1)

  -- where the place doesn't matter
  pub numbered_of_each : (P : X → Type 0) (n : ℕ) (xs : List X) → Each P xs → AllNumbered (λ c x. P x) n xs
  numbered_of_each P n [] h = tt
  numbered_of_each P n (x ∷ xs) h = (h.0, numbered_of_each P (n + 1) xs h.1)

  pub numbered_map_from : {Y : Type 0} (P : ℕ → Y → Type 0) (f : ℕ → X → Y) (n : ℕ) (xs : List X) → AllNumbered (λ c x. P c (f c x)) n xs → AllNumbered P n (map_from f n xs)
  numbered_map_from P f n [] h = tt
  numbered_map_from P f n (x ∷ xs) h = (h.0, numbered_map_from P f (n + 1) xs h.1)

  pub numbered_unmap_from : {Y : Type 0} (P : ℕ → Y → Type 0) (f : ℕ → X → Y) (n : ℕ) (xs : List X) → AllNumbered P n (map_from f n xs) → AllNumbered (λ c x. P c (f c x)) n xs
  numbered_unmap_from P f n [] h = tt
  numbered_unmap_from P f n (x ∷ xs) h = (h.0, numbered_unmap_from P f (n + 1) xs h.1)

  pub map_kept : (f : X → X) (n : ℕ) (xs : List X) → AllNumbered (λ c x. f x ≡ x) n xs → map f xs ≡ xs
  map_kept f n [] h = refl
  map_kept f n (x ∷ xs) h = ap (λ y. y ∷ map f xs) h.0 ∙ ap (λ ys. x ∷ ys) (map_kept f (n + 1) xs h.1)

  pub map_from_agree : {Y : Type 0} (f g : ℕ → X → Y) (n : ℕ) (xs : List X) → AllNumbered (λ c x. f c x ≡ g c x) n xs → map_from f n xs ≡ map_from g n xs
  map_from_agree f g n [] h = refl
  map_from_agree f g n (x ∷ xs) h = ap (λ y. y ∷ map_from f (n + 1) xs) h.0 ∙ ap (λ ys. g n x ∷ ys) (map_from_agree f g (n + 1) xs h.1)

  pub flat_map_from_agree : {Y : Type 0} (f g : ℕ → X → List Y) (n : ℕ) (xs : List X) → AllNumbered (λ c x. f c x ≡ g c x) n xs → flat_map_from f n xs ≡ flat_map_from g n xs
  flat_map_from_agree f g n [] h = refl
  flat_map_from_agree f g n (x ∷ xs) h = ap (λ y. y ++ flat_map_from f (n + 1) xs) h.0 ∙ ap (λ ys. g n x ++ ys) (flat_map_from_agree f g (n + 1) xs h.1)

  pub map_from-id : (n : ℕ) (xs : List X) → map_from (λ c x. x) n xs ≡ xs
  map_from-id n [] = refl
  map_from-id n (x ∷ xs) = ap (λ ys. x ∷ ys) (map_from-id (n + 1) xs)

  pub map_from-map_from : {Y Z : Type 0} (g : ℕ → Y → Z) (f : ℕ → X → Y) (n : ℕ) (xs : List X) → map_from g n (map_from f n xs) ≡ map_from (λ c x. g c (f c x)) n xs
  map_from-map_from g f n [] = refl
  map_from-map_from g f n (x ∷ xs) = ap (λ ys. g n (f n x) ∷ ys) (map_from-map_from g f (n + 1) xs)

  pub flat_map_from-map_from : {Y Z : Type 0} (g : ℕ → Y → List Z) (f : ℕ → X → Y) (n : ℕ) (xs : List X) → flat_map_from g n (map_from f n xs) ≡ flat_map_from (λ c x. g c (f c x)) n xs
  flat_map_from-map_from g f n [] = refl
  flat_map_from-map_from g f n (x ∷ xs) = ap (λ ys. g n (f n x) ++ ys) (flat_map_from-map_from g f (n + 1) xs)

  pub map-map_from : {Y Z : Type 0} (g : Y → Z) (f : ℕ → X → Y) (n : ℕ) (xs : List X) → map g (map_from f n xs) ≡ map_from (λ c x. g (f c x)) n xs
  map-map_from g f n [] = refl
  map-map_from g f n (x ∷ xs) = ap (λ ys. g (f n x) ∷ ys) (map-map_from g f (n + 1) xs)

  pub map_from-map : {Y Z : Type 0} (g : ℕ → Y → Z) (f : X → Y) (n : ℕ) (xs : List X) → map_from g n (map f xs) ≡ map_from (λ c x. g c (f x)) n xs
  map_from-map g f n [] = refl
  map_from-map g f n (x ∷ xs) = ap (λ ys. g n (f x) ∷ ys) (map_from-map g f (n + 1) xs)

  pub flat_map-map_from : {Y Z : Type 0} (g : Y → List Z) (f : ℕ → X → Y) (n : ℕ) (xs : List X) → flat_map g (map_from f n xs) ≡ flat_map_from (λ c x. g (f c x)) n xs
  flat_map-map_from g f n [] = refl
  flat_map-map_from g f n (x ∷ xs) = ap (λ ys. g (f n x) ++ ys) (flat_map-map_from g f (n + 1) xs)

  pub flat_map-from : {Y : Type 0} (g : X → List Y) (n : ℕ) (xs : List X) → flat_map g xs ≡ flat_map_from (λ c x. g x) n xs
  flat_map-from g n [] = refl
  flat_map-from g n (x ∷ xs) = ap (λ ys. g x ++ ys) (flat_map-from g (n + 1) xs)
