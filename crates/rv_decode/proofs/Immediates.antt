-- The immediates of a word whose fields are made of the bits of a number.
use Rattle.std.proofs.Common.{◌≡◌, ℕ, ℤ, pos, negsuc, ◌+◌, ◌*◌, ◌/◌, ◌%◌, ◌^◌, ◌<◌, ◌≤◌, ◌-ℤ◌, inl, inr, arith}
use Rattle.std.proofs.lemmas.Bool.{cases_lt}
use Rattle.std.proofs.lemmas.Int.{ints}
use Rattle.rv_decode.specs.Fields.{f7_of, rd_of, rs2_of, immediate_i, immediate_s, immediate_b}
use Rattle.rv_decode.specs.Ranges.{IsEven}

-- the number with this sign, the sign's place weighing so much below zero, and these bits below it
abbrev pub HasBits : ℤ → ℕ → ℕ → ℤ → Type 0
HasBits z sign below weight = (sign ≡ 0 → z ≡ pos below) × (sign ≡ 1 → z ≡ pos below -ℤ weight)

pub i_value : (word sign below : ℕ) (z : ℤ) → word < 2 ^ 32 → sign ≤ 1 → below < 2 ^ 11 → HasBits z sign below (pos (2 ^ 11)) → f7_of word ≡ sign * 64 + below / 32 → rs2_of word ≡ below % 32 → immediate_i word ≡ z
i_value word sign below z w s b v high low =
    elim (cases_lt sign 1) [
      | inl h ↦ let e : z ≡ pos below = v.0 (omega arith) in omega (arith, ints)
      | inr h ↦ let e : z ≡ pos below -ℤ pos (2 ^ 11) = v.1 (omega arith) in omega (arith, ints)
    ]

pub s_value : (word sign below : ℕ) (z : ℤ) → word < 2 ^ 32 → sign ≤ 1 → below < 2 ^ 11 → HasBits z sign below (pos (2 ^ 11)) → f7_of word ≡ sign * 64 + below / 32 → rd_of word ≡ below % 32 → immediate_s word ≡ z
s_value word sign below z w s b v high low =
    elim (cases_lt sign 1) [
      | inl h ↦ let e : z ≡ pos below = v.0 (omega arith) in omega (arith, ints)
      | inr h ↦ let e : z ≡ pos below -ℤ pos (2 ^ 11) = v.1 (omega arith) in omega (arith, ints)
    ]

-- an even number's lowest bit is 0
even_bits : (z : ℤ) (sign below : ℕ) → IsEven z → sign ≤ 1 → HasBits z sign below (pos (2 ^ 12)) → below % 2 ≡ 0
even_bits (pos n) sign below even s v =
    elim (cases_lt sign 1) [
      | inl h ↦ let e : pos n ≡ pos below = v.0 (omega arith) in let f : n ≡ below = omega (arith, ints) in omega arith
      | inr h ↦ let e : pos n ≡ pos below -ℤ pos (2 ^ 12) = v.1 (omega arith) in let f : n + 2 ^ 12 ≡ below = omega (arith, ints) in omega arith
    ]
even_bits (negsuc n) sign below even s v =
    elim (cases_lt sign 1) [
      | inl h ↦ let e : negsuc n ≡ pos below = v.0 (omega arith) in omega (arith, ints)
      | inr h ↦ let e : negsuc n ≡ pos below -ℤ pos (2 ^ 12) = v.1 (omega arith) in let f : below + n + 1 ≡ 2 ^ 12 = omega (arith, ints) in omega arith
    ]

pub b_value : (word sign below : ℕ) (z : ℤ) → word < 2 ^ 32 → sign ≤ 1 → below < 2 ^ 12 → IsEven z → HasBits z sign below (pos (2 ^ 12)) → f7_of word ≡ sign * 64 + below / 32 % 64 → rd_of word ≡ below % 32 + below / 2048 → immediate_b word ≡ z
b_value word sign below z w s b even v high low =
    let last : below % 2 ≡ 0 = even_bits z sign below even s v in
    elim (cases_lt sign 1) [
      | inl h ↦ let e : z ≡ pos below = v.0 (omega arith) in omega (arith, ints)
      | inr h ↦ let e : z ≡ pos below -ℤ pos (2 ^ 12) = v.1 (omega arith) in omega (arith, ints)
    ]
