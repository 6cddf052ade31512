-- The quotient and the remainder make the dividend.
use Rattle.std.proofs.Common.{◌≡◌, ℕ, zero, suc, ◌+◌, ◌-◌, ◌*◌, ◌^◌, ◌<◌, ◌≤◌, ℤ, pos, negsuc, neg_ℤ, ◌+ℤ◌, ◌*ℤ◌, w32, SFits, arith, refl, sym, ap, ap₂, ◌∙◌, ne_eqb, lt_of_le_of_lt, div-le_self, le_trans}
use Rattle.std.specs.Prelude.{unsigned_abs, int_div, int_rem}
use Rattle.std.proofs.lemmas.Int.{ints, to_z-of_z, of_z-to_z, quot-rem, rem_below}
use Rattle.std.proofs.lemmas.Nat.{div_below, div-add-mod', mod_below}
use Rattle.std.proofs.lemmas.Bool.Decides.{nat_tests}
use lib.Signed.{mag, mag_rem}
use Rattle.slack_base.specs.declared.instructions.RegOp.TheVariants.{Div, Divu, Rem, Remu}
use Rattle.rv_exec.specs.Words.{signed_of, low_bits, word_of}
use Rattle.rv_exec.specs.Alu.{alu_of, quotient_of_unsigned, remainder_of_unsigned}
use Rattle.rv_exec.proofs.Readings.{signed_of-cast, word_of-cast, word_of-below, quotient-nonzero, remainder-nonzero}

-- ---- readings and words are one another's inverses

signed_of-fits : (w : ℕ) → w < 2 ^ 32 → SFits w32 (signed_of w)
unfolding signed_of
signed_of-fits w h = record { sfits = grind (arith, ints, nat_tests) }

signed_of-word_of : (z : ℤ) → SFits w32 z → signed_of (word_of z) ≡ z
signed_of-word_of z f =
    let cast = word_of-cast z f in
    let read = signed_of-cast (word_of z) (word_of-below z) in
    let back = to_z-of_z w32 z f in
    cc

word_of-signed_of : (w : ℕ) → w < 2 ^ 32 → word_of (signed_of w) ≡ w
word_of-signed_of w h =
    let cast = word_of-cast (signed_of w) (signed_of-fits w h) in
    let read = signed_of-cast w h in
    let back = of_z-to_z w32 w h in
    cc

-- ---- the quotient fits but for -2^31 by -1

opposite-fits : (n h : ℕ) → n < h → mag (neg_ℤ (pos n)) < h
opposite-fits zero h p = p
opposite-fits (suc n) h p = omega arith

opposite-fits_also : (n h : ℕ) → 0 < h → n ≤ h → mag (neg_ℤ (pos n)) < h
opposite-fits_also zero h q p = q
opposite-fits_also (suc n) h q p = p

quotient-fits : (x y : ℤ) → SFits w32 x → (y ≡ pos 0 → ⊥) → ((x ≡ negsuc (2 ^ 31 - 1)) × (y ≡ negsuc 0) → ⊥) → SFits w32 (int_div x y)
quotient-fits (pos a) (pos b) f n o = record { sfits = lt_of_le_of_lt (div-le_self a b) f.sfits }
quotient-fits (pos a) (negsuc b) f n o = record { sfits = opposite-fits _ _ (lt_of_le_of_lt (div-le_self a (suc b)) f.sfits) }
quotient-fits (negsuc a) (pos b) f n o = record { sfits = opposite-fits_also _ _ (omega arith) (le_trans (div-le_self (suc a) b) f.sfits) }
quotient-fits (negsuc a) (negsuc zero) f n o =
    let other : a ≡ 2 ^ 31 - 1 → ⊥ = λ e. o (ap negsuc e, refl) in
    let small : suc a < 2 ^ 31 = omega (arith, f.sfits) in
    record { sfits = lt_of_le_of_lt (div-le_self (suc a) 1) small }
quotient-fits (negsuc a) (negsuc (suc b)) f n o =
    record { sfits = div_below (suc a) (suc (suc b)) (2 ^ 31) (omega arith) (omega (arith, f.sfits)) }

-- ---- the laws

nonzero : (b : ℕ) → 0 < b → b ≡ 0 → ⊥
nonzero b p e = omega arith

reading-nonzero : (b : ℕ) → b < 2 ^ 32 → 0 < b → signed_of b ≡ pos 0 → ⊥
unfolding word_of low_bits
reading-nonzero b h p e =
    let back : word_of (signed_of b) ≡ b = word_of-signed_of b h in
    let none : word_of (signed_of b) ≡ 0 = ap word_of e in
    omega arith

reading-least : (a : ℕ) → a < 2 ^ 32 → signed_of a ≡ negsuc (2 ^ 31 - 1) → a ≡ 2 ^ 31
unfolding word_of low_bits
reading-least a h e = sym (word_of-signed_of a h) ∙ ap word_of e

reading-minus_one : (b : ℕ) → b < 2 ^ 32 → signed_of b ≡ negsuc 0 → b ≡ 2 ^ 32 - 1
unfolding word_of low_bits
reading-minus_one b h e = sym (word_of-signed_of b h) ∙ ap word_of e

remainder-reading : (a b : ℕ) → a < 2 ^ 32 → b < 2 ^ 32 → 0 < b → signed_of (alu_of Rem a b) ≡ int_rem (signed_of a) (signed_of b)
unfolding alu_of
remainder-reading a b ha hb p =
    let fits : SFits w32 (int_rem (signed_of a) (signed_of b)) =
    record { sfits = lt_of_le_of_lt (mag_rem (signed_of a) (signed_of b)) (signed_of-fits a ha).sfits } in
    ap signed_of (remainder-nonzero a b (nonzero b p)) ∙ signed_of-word_of _ fits

quotient-reading : (a b : ℕ) → a < 2 ^ 32 → b < 2 ^ 32 → 0 < b → ¬ ((a ≡ 2 ^ 31) × (b ≡ 2 ^ 32 - 1)) → signed_of (alu_of Div a b) ≡ int_div (signed_of a) (signed_of b)
unfolding alu_of
quotient-reading a b ha hb p o =
    let fits : SFits w32 (int_div (signed_of a) (signed_of b)) =
    quotient-fits _ _ (signed_of-fits a ha) (reading-nonzero b hb p) (λ e. o (reading-least a ha e.0, reading-minus_one b hb e.1)) in
    ap signed_of (quotient-nonzero a b (nonzero b p)) ∙ signed_of-word_of _ fits

pub signed-exact : (a b : ℕ) → a < 2 ^ 32 → b < 2 ^ 32 → 0 < b → ¬ ((a ≡ 2 ^ 31) × (b ≡ 2 ^ 32 - 1)) → signed_of (alu_of Div a b) *ℤ signed_of b +ℤ signed_of (alu_of Rem a b) ≡ signed_of a
signed-exact a b ha hb p o =
    ap₂ (λ q r. q *ℤ signed_of b +ℤ r) (quotient-reading a b ha hb p o) (remainder-reading a b ha hb p) ∙ quot-rem (signed_of a) (signed_of b)

far : (y : ℤ) → (y ≡ pos 0 → ⊥) → 0 < unsigned_abs y
far (pos zero) n = absurd (n refl)
far (pos (suc k)) n = omega arith
far (negsuc k) n = omega arith

pub signed-smaller : (a b : ℕ) → a < 2 ^ 32 → b < 2 ^ 32 → 0 < b → unsigned_abs (signed_of (alu_of Rem a b)) < unsigned_abs (signed_of b)
signed-smaller a b ha hb p =
    let below = rem_below (signed_of a) (signed_of b) (far _ (reading-nonzero b hb p)) in
    rw (remainder-reading a b ha hb p) below

pub unsigned-exact : (a b : ℕ) → 0 < b → alu_of Divu a b * b + alu_of Remu a b ≡ a
unfolding alu_of quotient_of_unsigned remainder_of_unsigned
unsigned-exact a b p = rw (ne_eqb b 0 (nonzero b p)) (div-add-mod' a b)

pub unsigned-smaller : (a b : ℕ) → 0 < b → alu_of Remu a b < b
unfolding alu_of remainder_of_unsigned
unsigned-smaller a b p = rw (ne_eqb b 0 (nonzero b p)) (mod_below a b p)
