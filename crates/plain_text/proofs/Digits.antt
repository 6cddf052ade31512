-- Numbers and their digits.
use Rattle.std.proofs.Common.{◌≡◌, ℕ, ◌+◌, ◌*◌, ◌^◌, ◌<◌, ◌≤◌, Bool, true, false, cond, List, length, take, drop, get_or, map, Some, None, refl, sym, ap, ◌∙◌, subst, arith, ltb, ◌&&◌, ◌++◌, inl, inr, below_more}
use Rattle.std.specs.Char.{digit_value}
use Rattle.std.specs.Int.Digits.{number_from_digits, number_from_digits_after}
use Rattle.std.specs.List.{list_all}
use Rattle.std.specs.Str.Parse.{digits_value}
use Rattle.std.proofs.lemmas.Bool.Decides.{nat_tests}
use Rattle.std.proofs.lemmas.Int.Digits.{digits_value_is, digits_value_more, number_after_append, number_after_ge}
use Rattle.std.proofs.lemmas.List.{take-append-drop, map-append, take_all, get_or_default}
use Rattle.std.proofs.lemmas.List.Folds.{list_all_at}
use Rattle.std.proofs.lemmas.List.Sums.{list_all-from_AllPass}
use Rattle.std.proofs.lemmas.Bool.{lt-ltb, cases_lt}
use Rattle.plain_text.specs.Numerals.{are_digits, numeral_of}

-- more digits make no smaller number
pub value_take_le : (radix k : ℕ) (ds : List ℕ) → 0 < radix → digits_value radix (take k ds) ≤ digits_value radix ds
value_take_le radix k ds h =
    let parts : map digit_value ds ≡ map digit_value (take k ds) ++ map digit_value (drop k ds) =
    ap (map digit_value) (sym (take-append-drop k ds)) ∙ map-append digit_value (take k ds) (drop k ds) in
    let all : digits_value radix ds ≡ number_from_digits_after radix (digits_value radix (take k ds)) (map digit_value (drop k ds)) =
    digits_value_is radix ds ∙ ap (number_from_digits radix) parts
    ∙ number_after_append radix 0 (map digit_value (take k ds)) (map digit_value (drop k ds))
    ∙ ap (λ n. number_from_digits_after radix n (map digit_value (drop k ds))) (sym (digits_value_is radix (take k ds))) in
    omega (arith, all, number_after_ge radix (digits_value radix (take k ds)) (map digit_value (drop k ds)) h)

and_false : (b c : Bool) → c ≡ false → (b && c) ≡ false
and_false true c h = h
and_false false c h = refl

false_and : (b c : Bool) → b ≡ false → (b && c) ≡ false
false_and true c h = absurd cc
false_and false c h = refl

all_true : (a b c : Bool) → a ≡ true → b ≡ true → c ≡ true → ((a && b) && c) ≡ true
all_true true true true h i j = refl
all_true false b c h i j = absurd cc
all_true true false c h i j = absurd cc
all_true true true false h i j = absurd cc

-- a byte that is no digit
pub bad_digit : (radix i : ℕ) (ds : List ℕ) → i < length ds → radix ≤ digit_value (get_or ds i 0) → numeral_of radix ds ≡ None
unfolding numeral_of
bad_digit radix i ds low h =
    let here : ltb (digit_value (get_or ds i 0)) radix ≡ false = grind (arith, nat_tests) in
    let none : list_all (λ byte. ltb (digit_value byte) radix) ds ≡ false = list_all_at (λ byte. ltb (digit_value byte) radix) ds i 0 low here in
    let test = false_and _ (ltb (digits_value radix ds) (2 ^ 32)) (and_false (ltb 0 (length ds)) _ none) in
    ap (λ b. cond b (Some (digits_value radix ds)) None) test

-- digits of too large a number
pub too_large : (radix k : ℕ) (ds : List ℕ) → 0 < radix → 2 ^ 32 ≤ digits_value radix (take k ds) → numeral_of radix ds ≡ None
unfolding numeral_of
too_large radix k ds h large =
    let whole = value_take_le radix k ds h in
    let here : ltb (digits_value radix ds) (2 ^ 32) ≡ false = grind (arith, nat_tests) in
    ap (λ b. cond b (Some (digits_value radix ds)) None) (and_false (are_digits radix ds) _ here)

-- a byte that is no digit, or makes too large a number of those before it
pub no_more : (radix i n : ℕ) (ds : List ℕ) → 0 < radix → i < length ds → n ≡ digits_value radix (take i ds) → ¬ ((digit_value (get_or ds i 0) < radix) × (n * radix + digit_value (get_or ds i 0) < 2 ^ 32)) → numeral_of radix ds ≡ None
no_more radix i n ds positive low same not_both =
    elim (cases_lt (digit_value (get_or ds i 0)) radix) [
      | inr bad ↦ bad_digit radix i ds low bad
      | inl good ↦
          elim (cases_lt (n * radix + digit_value (get_or ds i 0)) (2 ^ 32)) [
            | inr large ↦ too_large radix (i + 1) ds positive (subst (λ v. 2 ^ 32 ≤ v) (ap (λ v. v * radix + digit_value (get_or ds i 0)) same ∙ sym (digits_value_more radix ds i low)) large)
            | inl small ↦ absurd (not_both (good, small))
          ]
    ]

-- one more digit
pub one_more : (radix i n m : ℕ) (ds : List ℕ) → i < length ds → n ≡ digits_value radix (take i ds) → ((k : ℕ) → k < i → digit_value (get_or ds k 0) < radix) → (digit_value (get_or ds i 0) < radix) × (n * radix + digit_value (get_or ds i 0) < 2 ^ 32) × (m ≡ n * radix + digit_value (get_or ds i 0)) → (m ≡ digits_value radix (take (i + 1) ds)) × ((k : ℕ) → k < i + 1 → digit_value (get_or ds k 0) < radix)
one_more radix i n m ds low same before here =
    (here.2 ∙ ap (λ v. v * radix + digit_value (get_or ds i 0)) same ∙ sym (digits_value_more radix ds i low), below_more _ _ before here.0)

-- all bytes are digits
pub all_read : (radix i n : ℕ) (ds : List ℕ) → 0 < length ds → length ds ≤ i → n < 2 ^ 32 → n ≡ digits_value radix (take i ds) → ((k : ℕ) → k < i → digit_value (get_or ds k 0) < radix) → Some n ≡ numeral_of radix ds
unfolding numeral_of
all_read radix i n ds some end small same each =
    let whole : n ≡ digits_value radix ds = same ∙ ap (digits_value radix) (take_all i ds end) in
    let digits : list_all (λ byte. ltb (digit_value byte) radix) ds ≡ true =
    list_all-from_AllPass (λ byte. ltb (digit_value byte) radix) ds (λ k d low. let here = each k (omega arith) in ap (λ b. ltb (digit_value b) radix) (get_or_default ds k d 0 low) ∙ lt-ltb _ _ here) in
    let fits : ltb (digits_value radix ds) (2 ^ 32) ≡ true = lt-ltb _ _ (subst (λ v. v < 2 ^ 32) whole small) in
    let test = all_true _ _ _ (lt-ltb 0 (length ds) some) digits fits in
    ap Some whole ∙ sym (ap (λ b. cond b (Some (digits_value radix ds)) None) test)
