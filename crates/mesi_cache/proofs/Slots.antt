-- The list that stands in the first places of an array, after a change of the array.
use Rattle.std.proofs.Common.{◌≡◌, ℕ, ◌+◌, ◌-◌, ◌<◌, ◌≤◌, List, ◌∷◌, length, get_or, take, set, remove, Some, slice_get, sym, ap, ◌∙◌, arith, rules, length-take-le, get_or-take, get_or-set_same}
use Rattle.std.specs.List.{copy_within}
use Rattle.std.proofs.lemmas.List.{places, same_lists}
use Rattle.std.proofs.lemmas.Bool.{cases_eq}
use Rattle.std.proofs.lemmas.Option.{slice_get-get_or}

-- a line is put at the front, and those before a place move back by one
put_first : {X : Type 0} (xs : List X) (n p : ℕ) (x : X) → p < n → n ≤ length xs → take n (set (copy_within xs 0 p 1) 0 x) ≡ x ∷ remove (take n xs) p
put_first xs n p x low high = same_lists _ _ (search (rules, places)) (λ k d h. grind (arith, places))

-- those after a place move forward by one
take_away : {X : Type 0} (xs : List X) (n p : ℕ) → p < n → n ≤ length xs → take (n - 1) (copy_within xs (p + 1) n p) ≡ remove (take n xs) p
take_away xs n p low high = same_lists _ _ (search (rules, places)) (λ k d h. grind (arith, places))

write_at : {X : Type 0} (xs : List X) (n p : ℕ) (x : X) → p < n → n ≤ length xs → take n (set xs p x) ≡ set (take n xs) p x
write_at xs n p x low high = same_lists _ _ (search (rules, places)) (λ k d h. grind (arith, places, get_or-set_same, cases_eq k p))

-- the first n places of xs hold the list zs
module _ {X : Type 0} (xs : List X) (n : ℕ) (fits : n ≤ length xs) (zs : List X) (shown : take n xs ≡ zs) where
  pub length_shown : length zs ≡ n
  length_shown = ap length (sym shown) ∙ length-take-le n xs fits

  below : (p : ℕ) → p < length zs → p < n
  below p h = omega (arith, length_shown)

  pub put_front : (p : ℕ) (x : X) → p < length zs → take n (set (copy_within xs 0 p 1) 0 x) ≡ x ∷ remove zs p
  put_front p x h = rw (← shown) (put_first xs n p x (below p h) fits)

  pub take_out : (p : ℕ) → p < length zs → take (n - 1) (copy_within xs (p + 1) n p) ≡ remove zs p
  take_out p h = rw (← shown) (take_away xs n p (below p h) fits)

  pub put_at : (p : ℕ) (x : X) → p < length zs → take n (set xs p x) ≡ set zs p x
  put_at p x h = rw (← shown) (write_at xs n p x (below p h) fits)

  pub at_place : (p : ℕ) (d : X) → p < length zs → slice_get zs p ≡ Some (get_or xs p d)
  at_place p d h =
      rw (← shown) (slice_get-get_or (take n xs) p d (omega (arith, below p h, length-take-le n xs fits)) ∙ ap Some (get_or-take n xs p d (below p h)))
