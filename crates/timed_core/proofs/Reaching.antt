-- The word of an address by the number of its place, and the zeros behind what is kept.
use Rattle.std.proofs.Common.{◌≡◌, ◌≢◌, ◌∙◌, ℕ, zero, suc, ◌+◌, ◌-◌, ◌*◌, ◌/◌, ◌%◌, ◌^◌, ◌<◌, ◌≤◌, ◌==◌, ◌&&◌, ◌++◌, Bool, true, false, Option, Some, None, List, drop, length, get_or, replicate, nat_le, nat_lt, refl, sym, ap, inl, inr, cond, arith, ⊎_elim, length-append}
use Rattle.std.specs.Prelude.{option_and_then}
use Rattle.std.proofs.lemmas.Bool.{cases_lt, ne_eqb}
use Rattle.std.proofs.lemmas.Bool.Decides.{nat_tests}
use Rattle.std.proofs.lemmas.List.{get_or_append_left, get_or_past, get_or-drop, length-replicate}
use Rattle.std.proofs.Math.Seq.{get_or-append_right}
use Rattle.byteorder.specs.Endian.{little_number}
use Rattle.rv_decode.specs.Decoding.{instr_of, instr_by}
use Rattle.first_memory.specs.Memory.{with_zeros}
use Rattle.first_memory.proofs.Reached.{with-zeros-at, length-with_zeros}
use Rattle.timed_core.specs.declared.kept.Kept.{Kept}
use Rattle.timed_core.specs.declared.kept.Kept.TheVariants.{Nothing}
use Rattle.timed_core.specs.Kept.{instr_in}
use Rattle.timed_core.specs.Code.{CodeValue, IsCode, is_in_memory, word_at, instr_at}

-- an address whose offset, modulo 2^32, is that of a kept word is in memory
record IsReached (base long address offset : ℕ) : Type 0 where
  low : base ≤ address
  high : address < base + long
  aligned : address % 4 ≡ 0
  place : 4 * (offset / 4) ≡ address - base

reached : (base long count address offset : ℕ) → base % 4 ≡ 0 → base + long ≤ 2 ^ 32 → 4 * count ≤ long → base < 2 ^ 32 → address < 2 ^ 32
    → offset ≡ (address + (2 ^ 32 - base)) % 2 ^ 32 → offset % 4 ≡ 0 → offset / 4 < count → IsReached base long address offset
reached base long count address offset even room within low32 addr32 is aligned lt =
    let low : base ≤ address = omega (arith, within, is, lt, low32, addr32, room) in
    record {
      low = low;
      high = omega (arith, within, is, lt, low32, addr32, room);
      aligned = omega (arith, even, is, aligned, low32, addr32);
      place = omega (arith, is, aligned, low32, addr32, low);
    }

-- the words of lists that show the same are the same
words_same : (xs ys : List ℕ) (n : ℕ) → ((k : ℕ) → get_or xs k 0 ≡ get_or ys k 0) → little_number 4 (drop n xs) ≡ little_number 4 (drop n ys)
words_same xs ys n same =
    let at : (i : ℕ) → get_or (drop n xs) i 0 ≡ get_or (drop n ys) i 0 = λ i. get_or-drop n xs i 0 ∙ same (n + i) ∙ sym (get_or-drop n ys i 0) in
    rw (at 0, at 1, at 2, at 3) refl

pub word_padded : (bytes : List ℕ) (size n : ℕ) → little_number 4 (drop n (with_zeros bytes size)) ≡ little_number 4 (drop n bytes)
word_padded bytes size n = words_same (with_zeros bytes size) bytes n (with-zeros-at bytes size)

-- behind the bytes a word is 0
pub word_past : (bytes : List ℕ) (size n : ℕ) → length bytes ≤ n → little_number 4 (drop n (with_zeros bytes size)) ≡ 0
word_past bytes size n past =
    let at : (i : ℕ) → get_or (drop n bytes) i 0 ≡ 0 = λ i. get_or-drop n bytes i 0 ∙ get_or_past bytes (n + i) 0 (omega (arith, past)) in
    word_padded bytes size n ∙ rw (at 0, at 1, at 2, at 3) refl

module _ (base memory : ℕ) (bytes : List ℕ) (kept : List Kept) (whole : IsCode base memory bytes kept) (address offset : ℕ) (low32 : base < 2 ^ 32) (addr32 : address < 2 ^ 32)
    (is : offset ≡ (address + (2 ^ 32 - base)) % 2 ^ 32) where
  abbrev code : CodeValue
  code = record { base = base; bytes = with_zeros bytes memory }

  long : length (with_zeros bytes memory) ≡ memory
  long = length-with_zeros bytes memory whole.within

  pub kept_at : offset % 4 ≡ 0 → offset / 4 < length kept → instr_in (get_or kept (offset / 4) Nothing) ≡ instr_at code address
  unfolding word_at
  kept_at aligned lt =
      let r = reached base memory (length kept) address offset whole.base_aligned whole.room (omega (arith, whole.whole, whole.within)) low32 addr32 is aligned lt in
      let low : nat_le base address ≡ true = grind (arith, nat_tests, r.low) in
      let high : nat_lt address (base + length (with_zeros bytes memory)) ≡ true = grind (arith, nat_tests, r.high, long) in
      let four : (address % 4 == 0) ≡ true = grind (arith, r.aligned) in
      whole.decoded.each (offset / 4) lt ∙ ap instr_of (sym (word_padded bytes memory (4 * (offset / 4)))) ∙ ap (λ n. instr_of (little_number 4 (drop n (with_zeros bytes memory)))) r.place ∙ sym (rw (low, high, four) refl)

  -- the address is one of memory
  inside : base ≤ address → address < base + memory → is_in_memory code address ≡ true
  inside from below =
      let low : nat_le base address ≡ true = grind (arith, nat_tests, from) in
      let high : nat_lt address (base + length (with_zeros bytes memory)) ≡ true = grind (arith, nat_tests, below, long) in
      rw (low, high) refl

  under : address < base → is_in_memory code address ≡ false
  under lt = let low : nat_le base address ≡ false = grind (arith, nat_tests, lt) in rw low refl

  over : base ≤ address → base + memory ≤ address → is_in_memory code address ≡ false
  over from past =
      let low : nat_le base address ≡ true = grind (arith, nat_tests, from) in
      let high : nat_lt address (base + length (with_zeros bytes memory)) ≡ false = grind (arith, nat_tests, past, long) in
      rw (low, high) refl

  pub in_memory_is : nat_lt offset memory ≡ is_in_memory code address
  in_memory_is = elim (cases_lt offset memory) [
    | inl lt ↦
        let test : nat_lt offset memory ≡ true = grind (arith, nat_tests, lt) in
        test ∙ sym (inside (omega (arith, is, lt, low32, addr32, whole.room)) (omega (arith, is, lt, low32, addr32, whole.room)))
    | inr le ↦
        let test : nat_lt offset memory ≡ false = grind (arith, nat_tests, le) in
        elim (cases_lt address base) [
          | inl lower ↦ test ∙ sym (under lower)
          | inr from ↦ test ∙ sym (over from (omega (arith, is, le, from, low32, addr32, whole.room)))
        ]
  ]

  abbrev word : Bool → Option ℕ
  word b = cond (b && (address % 4 == 0)) (Some (little_number 4 (drop (address - base) (with_zeros bytes memory)))) None

  pub word_outside : base ≤ address → base + memory ≤ address → None ≡ word_at code address
  unfolding word_at
  word_outside from past = sym (ap word (over from past))

  pub word_inside : base ≤ address → address < base + memory → address % 4 ≡ 0
      → Some (little_number 4 (drop (address - base) (with_zeros bytes memory))) ≡ word_at code address
  unfolding word_at
  word_inside from below aligned =
      let four : (address % 4 == 0) ≡ true = grind (arith, aligned) in
      sym (ap word (inside from below) ∙ ap (λ b. cond b (Some (little_number 4 (drop (address - base) (with_zeros bytes memory)))) None) four)

  -- an address off a multiple of 4 has no word
  pub none_off : offset % 4 ≢ 0 → None ≡ instr_at code address
  unfolding word_at
  none_off off =
      let four : (address % 4 == 0) ≡ false = ne_eqb (address % 4) 0 (λ e. off (omega (arith, is, e, whole.base_aligned, low32, addr32))) in
      elim (is_in_memory code address) as (λ b. None ≡ option_and_then instr_of (word b)) [
        | true ↦ rw four refl
        | false ↦ refl
      ]

  -- behind what is kept memory has zeros
  pub none_past : offset % 4 ≡ 0 → length kept ≤ offset / 4 → None ≡ instr_at code address
  unfolding word_at instr_by
  none_past aligned past = elim (cases_lt offset memory) [
    | inl lt ↦
        let low : base ≤ address = omega (arith, is, lt, low32, addr32, whole.room) in
        let zero_there : little_number 4 (drop (address - base) (with_zeros bytes memory)) ≡ 0 =
        word_past bytes memory (address - base) (omega (arith, is, aligned, past, low, lt, low32, addr32, whole.whole, whole.room)) in
        elim (is_in_memory code address && (address % 4 == 0)) as (λ b. None ≡ option_and_then instr_of (cond b (Some (little_number 4 (drop (address - base) (with_zeros bytes memory)))) None)) [
          | true ↦ sym (ap instr_of zero_there)
          | false ↦ refl
        ]
    | inr le ↦
        let test : nat_lt offset memory ≡ false = grind (arith, nat_tests, le) in
        ap (λ b. option_and_then instr_of (word b)) (sym test ∙ in_memory_is)
  ]
