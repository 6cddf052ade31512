-- Lists whose items went each its way.
use Rattle.std.proofs.Common.{◌≡◌, ◌∙◌, ℕ, zero, suc, ◌+◌, ◌<◌, ◌≤◌, List, [], ◌∷◌, ◌++◌, Some, map, length, slice_get, get_or, set, Result, Ok, Err, OnOk, refl, sym, ap, subst, arith}
use Rattle.std.proofs.lemmas.List.{length-map}
use Rattle.std.proofs.lemmas.Option.{none-some, same_Some, slice_get_within}
use Rattle.drive_script.proofs.Places.{Along}
use Rattle.settle.proofs.Lists.{get_in, get_map}
use Rattle.std.proofs.lemmas.List.Elements.{All-get_or}
use Rattle.std.specs.List.{All, AllZip}
use Rattle.target_law.proofs.OneByOne.{Changed, not_yet}

-- what follows where a call went well
pub on_ok : {X E : Type 0} {A B : Type 0} (r : Result X E) → (A → B) → OnOk r A → OnOk r B
on_ok (Ok x) f h = f h
on_ok (Err e) f h = tt

module _ {A B : Type 0} (R : A → B → Type 0) where
  pub AllZip-append : (xs : List A) (ys : List B) (vs : List A) (ws : List B) → AllZip R xs ys → AllZip R vs ws → AllZip R (xs ++ vs) (ys ++ ws)
  AllZip-append [] [] vs ws h k = k
  AllZip-append [] (y ∷ ys) vs ws h k = absurd h
  AllZip-append (x ∷ xs) [] vs ws h k = absurd h
  AllZip-append (x ∷ xs) (y ∷ ys) vs ws h k = (h.0, AllZip-append xs ys vs ws h.1 k)

  -- two parts that went well went well together
  pub both_ok : {X E : Type 0} (r : Result X E) (xs : List A) (ys : List B) (vs : List A) (ws : List B) → OnOk r (AllZip R xs ys) → OnOk r (AllZip R vs ws) → OnOk r (AllZip R (xs ++ vs) (ys ++ ws))
  both_ok (Ok x) xs ys vs ws h k = AllZip-append xs ys vs ws h k
  both_ok (Err e) xs ys vs ws h k = tt

-- the only item
pub zip_one : {A : Type 0} (R : A → A → Type 0) (xs : List A) (d v : A) → length xs ≡ 1 → R (get_or xs 0 d) v → AllZip R xs (set xs 0 v)
zip_one R [] d v e h = absurd (omega arith)
zip_one R (x ∷ []) d v e h = (h, tt)
zip_one R (x ∷ (y ∷ ys)) d v e h = absurd (omega arith)

-- two items at one place
pub zip_at : {A B : Type 0} (R : A → B → Type 0) (xs : List A) (ys : List B) (i : ℕ) (x : A) (y : B) → AllZip R xs ys → slice_get xs i ≡ Some x → slice_get ys i ≡ Some y → R x y
zip_at R [] ys i x y h ex ey = absurd (none-some x ex)
zip_at R (a ∷ xs) [] i x y h ex ey = absurd h
zip_at R (a ∷ xs) (b ∷ ys) zero x y h ex ey = subst (λ y. R x y) (same_Some b y ey) (subst (λ x. R x b) (same_Some a x ex) h.0)
zip_at R (a ∷ xs) (b ∷ ys) (suc i) x y h ex ey = zip_at R xs ys i x y h.1 ex ey

pub along_at : {A B : Type 0} (R : ℕ → A → B → Type 0) (n : ℕ) (xs : List A) (ys : List B) (i : ℕ) (x : A) (y : B) → Along R n xs ys → slice_get xs i ≡ Some x → slice_get ys i ≡ Some y → R (n + i) x y
along_at R n [] ys i x y h ex ey = absurd (none-some x ex)
along_at R n (a ∷ xs) [] i x y h ex ey = absurd h
along_at R n (a ∷ xs) (b ∷ ys) zero x y h ex ey =
    let here : n ≡ n + 0 = omega arith in
    subst (λ k. R k x y) here (subst (λ y. R n x y) (same_Some b y ey) (subst (λ x. R n x b) (same_Some a x ex) h.0))
along_at R n (a ∷ xs) (b ∷ ys) (suc i) x y h ex ey =
    let there : n + 1 + i ≡ n + suc i = omega arith in
    subst (λ k. R k x y) there (along_at R (n + 1) xs ys i x y h.1 ex ey)

pub along_count : {A B : Type 0} (R : ℕ → A → B → Type 0) (n : ℕ) (xs : List A) (ys : List B) → Along R n xs ys → length ys ≡ length xs
along_count R n [] [] h = refl
along_count R n [] (y ∷ ys) h = absurd h
along_count R n (x ∷ xs) [] h = absurd h
along_count R n (x ∷ xs) (y ∷ ys) h = ap suc (along_count R (n + 1) xs ys h.1)

-- an item of a list of others is one of them
pub seen_in : {X Y : Type 0} (f : X → Y) (xs : List X) (i : ℕ) (y : Y) → slice_get (map f xs) i ≡ Some y → (x : X) × (slice_get xs i ≡ Some x) × (f x ≡ y)
seen_in f xs i y at =
    let inside : i < length (map f xs) = slice_get_within (map f xs) i y at in
    let x = get_in xs i (subst (λ n. i < n) (length-map xs f) inside) in
    (x.0, x.1, same_Some (f x.0) y (sym (get_map f xs i x.0 x.1) ∙ at))

-- items that were all changed in place
pub all_changed : {A : Type 0} (R : A → A → Type 0) (n : ℕ) (xs ys : List A) → length xs ≤ n → Changed R n xs ys → AllZip R xs ys
all_changed R n [] [] h so = tt
all_changed R n [] (y ∷ ys) h so = absurd so
all_changed R n (x ∷ xs) [] h so = absurd so
all_changed R zero (x ∷ xs) (y ∷ ys) h so = absurd (omega arith)
all_changed R (suc n) (x ∷ xs) (y ∷ ys) h so = (so.0, all_changed R n xs ys (omega arith) so.1)

-- what is so of all items is so of the next that is changed
pub next_of_all : {A : Type 0} (R : A → A → Type 0) (P : A → Type 0) (n : ℕ) (xs ys : List A) (item : A) → n < length xs → Changed R n xs ys → item ≡ get_or ys n item → All P xs → P item
next_of_all R P n xs ys item inside so is all = subst P (sym (not_yet R n xs ys item inside so is)) (All-get_or P xs n item inside all)
