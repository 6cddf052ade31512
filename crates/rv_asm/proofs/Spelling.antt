-- Registers and numbers as the texts of instructions spell them.
use Rattle.std.proofs.Common.{◌≡◌, ℕ, ℤ, pos, negsuc, zero, suc, ◌^◌, ◌<◌, ◌≤◌, ◌&&◌, ◌||◌, Bool, true, false, not, List, [], ◌∷◌, length, get_or, map, Ok, unsigned_abs, neg_ℤ, refl, sym, ap, ◌∙◌, arith, eqb, leb, codes}
use Rattle.std.specs.Char.{digit_value}
use Rattle.std.specs.Fmt.{decimal, signed_decimal, digits}
use Rattle.std.specs.List.{list_all, range_with_len}
use Rattle.std.specs.Str.Parse.{AllDigits, digits_value}
use Rattle.std.proofs.lemmas.Bool.Decides.{nat_tests}
use Rattle.std.proofs.lemmas.Fmt.{decimal_is_IsNumeral}
use Rattle.std.proofs.lemmas.List.{take_all}
use Rattle.std.proofs.lemmas.List.FromFn.{get_or-map-range_with_len}
use Rattle.std.proofs.lemmas.Str.Parse.{digit_from_value}
use Rattle.rv_decode.specs.Texts.{register}
use Rattle.rv_asm.specs.Bytes.{is_within, is_blank, is_name, begins_name, continues_name, without_prefix}
use Rattle.rv_asm.specs.Kinds.{◌>>=◌}
use Rattle.rv_asm.specs.Numbers.{number_of, number_by, magnitude_of, magnitude_by, or_operand}
use Rattle.rv_asm.specs.Registers.{registers, register_of}
use Rattle.plain_text.proofs.Digits.{all_read}
use Rattle.rv_asm.proofs.Pieces.{both, all_pass, no_prefix, IsTight, bare}

abbrev pub is_digit : ℕ → Bool
is_digit b = is_within 48 57 b

-- a byte of a mnemonic, of a register or of a number
abbrev pub is_inner : ℕ → Bool
is_inner b = is_within 45 57 b || is_within 97 122 b

pub within : (low high b : ℕ) → is_within low high b ≡ true → (low ≤ b) × (b ≤ high)
within low high b h =
    let parts = both (leb low b) (leb b high) h in
    let first = parts.0 in
    let second = parts.1 in
    (grind (arith, nat_tests), grind (arith, nat_tests))

pub within_from : (low high b : ℕ) → low ≤ b → b ≤ high → is_within low high b ≡ true
within_from low high b h k =
    let first : leb low b ≡ true = grind (arith, nat_tests) in
    let second : leb b high ≡ true = grind (arith, nat_tests) in
    ap (λ t. t && leb b high) first ∙ second

pub outside : (low high b : ℕ) → ((low ≤ b) × (b ≤ high) → ⊥) → is_within low high b ≡ false
outside low high b h =
    elim (is_within low high b) as (λ t. is_within low high b ≡ t → t ≡ false) [
      | true ↦ λ e. absurd (h (within low high b e))
      | false ↦ λ e. refl
    ] refl

pub or_right : (a b : Bool) → b ≡ true → (a || b) ≡ true
or_right true b h = refl
or_right false b h = h

pub or_left : (a b : Bool) → a ≡ true → (a || b) ≡ true
or_left true b h = refl
or_left false b h = absurd cc

digit_inner : (b : ℕ) → is_digit b ≡ true → is_inner b ≡ true
digit_inner b h =
    let at = within 48 57 b h in
    or_left (is_within 45 57 b) (is_within 97 122 b) (within_from 45 57 b (omega (arith, at.0)) at.1)

-- what such a byte is not
pub record IsInner (b : ℕ) : Type 0 where
  pub low : 45 ≤ b
  pub high : b ≤ 122
  pub no_colon : b ≡ 58 → ⊥

pub inner_is : (b : ℕ) → is_inner b ≡ true → IsInner b
inner_is b h =
    elim (is_within 45 57 b) as (λ t. is_within 45 57 b ≡ t → (t || is_within 97 122 b) ≡ true → IsInner b) [
      | true ↦ λ e k. let at = within 45 57 b e in record { low = at.0; high = omega (arith, at.1); no_colon = λ same. omega (arith, at.1, same) }
      | false ↦ λ e k. let at = within 97 122 b k in record { low = omega (arith, at.0); high = at.1; no_colon = λ same. omega (arith, at.0, same) }
    ] refl h

pub other_byte : (b c : ℕ) → (b ≡ c → ⊥) → not (eqb b c) ≡ true
other_byte b c h =
    let differs : eqb b c ≡ false = grind (arith, nat_tests) in
    ap not differs

pub not_blank : (b : ℕ) → 33 ≤ b → not (is_blank b) ≡ true
not_blank b h =
    let space : eqb b 32 ≡ false = grind (arith, nat_tests) in
    let tab : eqb b 9 ≡ false = grind (arith, nat_tests) in
    ap (λ t. not (t || eqb b 9)) space ∙ ap not tab

-- a text of such bytes
pub inner_but : (c : ℕ) (text : List ℕ) → c ≤ 44 → list_all is_inner text ≡ true → list_all (λ b. not (eqb b c)) text ≡ true
inner_but c text h k =
    all_pass is_inner (λ b. not (eqb b c)) text (λ b inner. other_byte b c (λ same. omega (arith, (inner_is b inner).low, same))) k

pub inner_bare : (text : List ℕ) → list_all is_inner text ≡ true → list_all (λ b. not (is_blank b)) text ≡ true
inner_bare text h = all_pass is_inner (λ b. not (is_blank b)) text (λ b inner. not_blank b (omega (arith, (inner_is b inner).low))) h

pub inner_tight : (text : List ℕ) → 0 < length text → list_all is_inner text ≡ true → IsTight text
inner_tight text some h = bare text some (inner_bare text h)

digits_pass : (ds : List ℕ) → AllDigits 10 ds → list_all is_digit ds ≡ true
digits_pass [] d = refl
digits_pass (c ∷ cs) d =
    let here = digit_from_value c d.0 in
    ap (λ t. t && list_all is_digit cs) (within_from 48 57 c (omega (arith, here)) (omega (arith, here))) ∙ digits_pass cs d.1

digits_below : (ds : List ℕ) → AllDigits 10 ds → (k : ℕ) → k < length ds → digit_value (get_or ds k 0) < 10
digits_below [] d k low = absurd (omega arith)
digits_below (c ∷ cs) d zero low = d.0
digits_below (c ∷ cs) d (suc k) low = digits_below cs d.1 k (omega arith)

pub decimal_digits : (n : ℕ) → n < 2 ^ 32 → list_all is_digit (decimal n) ≡ true
decimal_digits n h = digits_pass (decimal n) (decimal_is_IsNumeral n (omega arith)).0.1

pub decimal_some : (n : ℕ) → n < 2 ^ 32 → 0 < length (decimal n)
decimal_some n h = (decimal_is_IsNumeral n (omega arith)).0.0

pub decimal_inner : (n : ℕ) → n < 2 ^ 32 → list_all is_inner (decimal n) ≡ true
decimal_inner n h = all_pass is_digit is_inner (decimal n) digit_inner (decimal_digits n h)

pub signed_inner : (z : ℤ) → unsigned_abs z < 2 ^ 32 → list_all is_inner (signed_decimal z) ≡ true
signed_inner (pos n) h = decimal_inner n h
signed_inner (negsuc n) h = decimal_inner (suc n) (omega arith)

pub signed_some : (z : ℤ) → unsigned_abs z < 2 ^ 32 → 0 < length (signed_decimal z)
signed_some (pos n) h = decimal_some n h
signed_some (negsuc n) h = omega arith

pub register_inner : (r : ℕ) → r < 32 → list_all is_inner (register r) ≡ true
register_inner r h = decimal_inner r (omega arith)

pub register_some : (r : ℕ) → 0 < length (register r)
register_some r = omega arith

-- each register is read back
all_registers : map (λ r. register_of (register r)) (range_with_len 0 32) ≡ map Ok (range_with_len 0 32)
unfolding register_of registers digits
all_registers = refl

pub register_read : (r : ℕ) → r < 32 → register_of (register r) ≡ Ok r
register_read r h =
    sym (get_or-map-range_with_len (λ n. register_of (register n)) 0 32 r r (Ok 0) h (omega arith))
    ∙ ap (λ rs. get_or rs r (Ok 0)) all_registers
    ∙ get_or-map-range_with_len (λ n. Ok n) 0 32 r r (Ok 0) h (omega arith)

magnitude_read : (n : ℕ) → n < 2 ^ 32 → magnitude_of (decimal n) ≡ Ok n
unfolding magnitude_of
magnitude_read n h =
    let spelled = decimal_is_IsNumeral n (omega arith) in
    let value : n ≡ digits_value 10 (decimal n) = sym spelled.1 in
    ap (λ o. magnitude_by o (decimal n)) (no_prefix is_digit (codes "0x") (decimal n) (decimal_digits n h) refl)
    ∙ ap or_operand (sym (all_read 10 (length (decimal n)) n (decimal n) spelled.0.0 (omega arith) h (value ∙ ap (digits_value 10) (sym (take_all (length (decimal n)) (decimal n) (omega arith)))) (digits_below (decimal n) spelled.0.1)))

-- each number is
pub number_read : (z : ℤ) → unsigned_abs z < 2 ^ 32 → number_of (signed_decimal z) ≡ Ok z
unfolding number_of without_prefix
number_read (pos n) h =
    ap (λ o. number_by o (decimal n)) (no_prefix is_digit (codes "-") (decimal n) (decimal_digits n h) refl)
    ∙ ap (λ m. m >>= λ k. Ok (pos k)) (magnitude_read n h)
number_read (negsuc n) h =
    ap (λ m. m >>= λ k. Ok (neg_ℤ (pos k))) (magnitude_read (suc n) (omega arith))

-- no number is a name
not_begins : (c : ℕ) → c ≤ 57 → begins_name c ≡ false
not_begins c h =
    let last : eqb c 95 ≡ false = grind (arith, nat_tests) in
    ap (λ t. t || is_within 97 122 c || eqb c 95) (outside 65 90 c (λ k. omega (arith, k.0)))
    ∙ ap (λ t. t || eqb c 95) (outside 97 122 c (λ k. omega (arith, k.0)))
    ∙ last

digits_no_name : (text : List ℕ) → list_all is_digit text ≡ true → is_name text ≡ false
digits_no_name [] h = refl
digits_no_name (c ∷ cs) h =
    ap (λ t. t && list_all continues_name cs) (not_begins c (within 48 57 c (both (is_digit c) (list_all is_digit cs) h).0).1)

pub number_no_name : (z : ℤ) → unsigned_abs z < 2 ^ 32 → is_name (signed_decimal z) ≡ false
number_no_name (pos n) h = digits_no_name (decimal n) (decimal_digits n h)
number_no_name (negsuc n) h = refl
