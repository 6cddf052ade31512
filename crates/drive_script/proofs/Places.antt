-- Lists with one item changed: as they are stored, past their end, and beside another list.
use Rattle.std.proofs.Common.{◌≡◌, ◌≢◌, ◌∙◌, ℕ, ◌+◌, ◌<◌, ◌≤◌, zero, suc, List, [], ◌∷◌, ◌++◌, map, take, drop, length, get_or, set, Some, None, refl, sym, ap, subst, arith}
use Rattle.std.specs.List.{AllByRecursion as Each}
use Rattle.std.proofs.lemmas.List.{append-nil, drop_all, length-map, map-set, take_all}
use Rattle.std.proofs.lemmas.Option.{none-some, same_Some}
use Rattle.target_law.specs.Cycles.{changed_at, seen_at}
use Rattle.target_law.proofs.Loops.{get-map}
use Rattle.target_law.specs.Numbered.{AllNumbered}
use Rattle.target_law.proofs.Places.{changed-set, seen-get, numbered_get}
use Rattle.drive_script.specs.Worlds.{oldest, younger}

pub changed-past : {X : Type 0} (f : X → X) (k : ℕ) (xs : List X) → length xs ≤ k → changed_at k f xs ≡ xs
changed-past f zero [] h = refl
changed-past f (suc k) [] h = refl
changed-past f zero (x ∷ xs) h = absurd (omega arith)
changed-past f (suc k) (x ∷ xs) h = ap (λ ys. x ∷ ys) (changed-past f k xs (omega arith))

pub seen-past : {X Y : Type 0} (f : X → Y) (past : Y) (k : ℕ) (xs : List X) → length xs ≤ k → seen_at k f past xs ≡ past
seen-past f past zero [] h = refl
seen-past f past (suc k) [] h = refl
seen-past f past zero (x ∷ xs) h = absurd (omega arith)
seen-past f past (suc k) (x ∷ xs) h = seen-past f past k xs (omega arith)

changed-same : {X : Type 0} (k : ℕ) (xs : List X) → changed_at k (λ x. x) xs ≡ xs
changed-same zero [] = refl
changed-same (suc k) [] = refl
changed-same zero (x ∷ xs) = refl
changed-same (suc k) (x ∷ xs) = ap (λ ys. x ∷ ys) (changed-same k xs)

-- two lists that are equally long, by places
abbrev pub Along : {X Y : Type 0} → (ℕ → X → Y → Type 0) → ℕ → List X → List Y → Type 0
Along P n [] [] = Unit {0}
Along P n [] (y ∷ ys) = ⊥
Along P n (x ∷ xs) [] = ⊥
Along P n (x ∷ xs) (y ∷ ys) = P n x y × Along P (n + 1) xs ys

pub along_weaker : {X Y : Type 0} (P Q : ℕ → X → Y → Type 0) → ((c : ℕ) (x : X) (y : Y) → P c x y → Q c x y) → (n : ℕ) (xs : List X) (ys : List Y) → Along P n xs ys → Along Q n xs ys
along_weaker P Q f n [] [] h = tt
along_weaker P Q f n [] (y ∷ ys) h = h
along_weaker P Q f n (x ∷ xs) [] h = h
along_weaker P Q f n (x ∷ xs) (y ∷ ys) h = (f n x y h.0, along_weaker P Q f (n + 1) xs ys h.1)

-- at the changed place, and elsewhere
pub along_changed : {X Y Z : Type 0} (P Q : ℕ → X → Y → Type 0) (f : Y → Y) (g : Y → Z) (past : Z) (n k : ℕ) (xs : List X) (ys : List Y)
    → ((c : ℕ) (x : X) (y : Y) → c ≡ n + k → seen_at k g past ys ≡ g y → P c x y → Q c x (f y))
    → ((c : ℕ) (x : X) (y : Y) → c ≢ n + k → P c x y → Q c x y)
    → Along P n xs ys → Along Q n xs (changed_at k f ys)
along_changed P Q f g past n k [] [] here there h = tt
along_changed P Q f g past n k [] (y ∷ ys) here there h = absurd h
along_changed P Q f g past n k (x ∷ xs) [] here there h = absurd h
along_changed P Q f g past n zero (x ∷ xs) (y ∷ ys) here there h =
    (here n x y (omega arith) refl h.0, along_after P Q (n + 1) xs ys (λ c x y l. there c x y (λ e. omega arith)) h.1) where
      along_after : {X Y : Type 0} (P Q : ℕ → X → Y → Type 0) (m : ℕ) (xs : List X) (ys : List Y) → ((c : ℕ) (x : X) (y : Y) → m ≤ c → P c x y → Q c x y) → Along P m xs ys → Along Q m xs ys
      along_after P Q m [] [] f h = tt
      along_after P Q m [] (y ∷ ys) f h = absurd h
      along_after P Q m (x ∷ xs) [] f h = absurd h
      along_after P Q m (x ∷ xs) (y ∷ ys) f h = (f m x y (omega arith) h.0, along_after P Q (m + 1) xs ys (λ c x y l. f c x y (omega arith)) h.1)
along_changed P Q f g past n (suc k) (x ∷ xs) (y ∷ ys) here there h = (
  there n x y (λ e. omega arith) h.0,
  along_changed P Q f g past (n + 1) k xs ys (λ c x y e s. here c x y (omega arith) s) (λ c x y ne. there c x y (λ e. ne (omega arith))) h.1,
)

-- queues
pub oldest_in : {X : Type 0} (P : X → Type 0) (xs : List X) (x : X) → Each P xs → oldest xs ≡ Some x → P x
oldest_in P [] x h e = absurd (none-some x e)
oldest_in P (y ∷ xs) x h e = subst P (same_Some y x e) h.0

pub each_younger : {X : Type 0} (P : X → Type 0) (xs : List X) → Each P xs → Each P (younger xs)
each_younger P [] h = tt
each_younger P (x ∷ xs) h = h.1

pub oldest_first : {X : Type 0} (xs : List X) (x : X) → oldest xs ≡ Some x → xs ≡ x ∷ younger xs
oldest_first [] x e = absurd (none-some x e)
oldest_first (y ∷ xs) x e = ap (λ z. z ∷ xs) (same_Some y x e)

pub younger_same : {X : Type 0} (xs : List X) → oldest xs ≡ None → younger xs ≡ xs
younger_same [] e = refl
younger_same (x ∷ xs) e = absurd (none-some x (sym e))

pub none_waits : {X : Type 0} (xs : List X) → oldest xs ≡ None → xs ≡ []
none_waits [] e = refl
none_waits (x ∷ xs) e = absurd (none-some x (sym e))

-- what is stored is seen through a view
module _ {X Y : Type 0} (view : X → Y) (k : ℕ) (xs : List X) where
  pub stored_past : (f : Y → Y) → length xs ≤ k → changed_at k f (map view xs) ≡ map view xs
  stored_past f h = changed-past f k (map view xs) (subst (λ n. n ≤ k) (sym (length-map xs view)) h)

  pub stored_none : {Z : Type 0} (g : Y → Z) (past : Z) → length xs ≤ k → seen_at k g past (map view xs) ≡ past
  stored_none g past h = seen-past g past k (map view xs) (subst (λ n. n ≤ k) (sym (length-map xs view)) h)

  -- the item that is lent
  module _ (d : X) (within : k < length xs) (is : d ≡ get_or xs k d) where
    inside : k < length (map view xs)
    inside = subst (λ n. k < n) (sym (length-map xs view)) within

    lent : get_or (map view xs) k (view d) ≡ view d
    lent = get-map view xs k d ∙ ap view (sym is)

    pub numbered_stored : (P : ℕ → Y → Type 0) → AllNumbered P 0 (map view xs) → P k (view d)
    numbered_stored P all = subst (P k) lent (numbered_get P 0 k k (map view xs) (view d) (omega arith) inside all)

    pub stored_seen : {Z : Type 0} (g : Y → Z) (past : Z) → seen_at k g past (map view xs) ≡ g (view d)
    stored_seen g past = seen-get g past k (map view xs) (view d) inside ∙ ap g lent

    pub stored_changed : (f : Y → Y) (new : X) → view new ≡ f (view d) → map view (set xs k new) ≡ changed_at k f (map view xs)
    stored_changed f new e =
        map-set view xs k new ∙ ap (set (map view xs) k) (e ∙ ap f (sym lent))
        ∙ sym (changed-set f k (map view xs) (view d) inside)

    pub stored_same : (new : X) → view new ≡ view d → map view (set xs k new) ≡ map view xs
    stored_same new e = stored_changed (λ x. x) new e ∙ changed-same k (map view xs)

-- items that were lent together and given back
pub given_back : {X : Type 0} (n : ℕ) (old new : List X) → n ≡ length old → length new ≡ length old → take n (new ++ drop (length new) old) ≡ new
given_back n old new count same =
    ap (λ rest. take n (new ++ rest)) (drop_all (length new) old (omega arith))
    ∙ ap (take n) (append-nil new)
    ∙ take_all n new (omega arith)

-- all items are changed
pub all_changed : {X : Type 0} (f : X → X) (i : ℕ) (xs : List X) → length xs ≤ i → map f (take i xs) ++ drop i xs ≡ map f xs
all_changed f i xs h = ap (λ rest. map f (take i xs) ++ rest) (drop_all i xs h) ∙ append-nil (map f (take i xs)) ∙ ap (map f) (take_all i xs h)
