-- Shifts and masks against the bytes of a word.
use Rattle.std.proofs.Common.{◌≡◌, ℕ, zero, suc, ◌+◌, ◌-◌, ◌*◌, ◌/◌, ◌%◌, ◌^◌, ◌<◌, ◌≤◌, pos, ◌+ℤ◌, ◌-ℤ◌, bit_and, bit_or, cond, nat_lt, w8, w32, to_z, of_z, arith, sym, ap, ap₂, add-zero, mul-le-mul_right, mod-eq_of_lt, ◌∙◌, add-mul}
use Rattle.std.proofs.lemmas.Nat.{and_mask, and-not, and_block, or_block, or_shifted, or_disjoint, shr_split, pow_pos, mod_below, and_comm, and_le_l, and_le_r}
use Rattle.std.specs.Int.{w16}
use Rattle.std.proofs.lemmas.Int.{ints, to_z-of_z}
use Rattle.std.proofs.lemmas.Bool.Decides.{nat_tests}
use Rattle.rv_exec.proofs.Readings.{word_of_is}
use Rattle.rv_exec.specs.Access.{part_of, word_with, sign_extension}

-- ---- loads

pub byte_part : (w k : ℕ) → k < 4 → bit_and (w / 2 ^ (8 * k)) 255 ≡ part_of 1 w k
unfolding part_of
byte_part w zero h = and_mask _ 8 ∙ omega arith
byte_part w (suc zero) h = and_mask _ 8 ∙ omega arith
byte_part w (suc (suc zero)) h = and_mask _ 8 ∙ omega arith
byte_part w (suc (suc (suc zero))) h = and_mask _ 8 ∙ omega arith
byte_part w (suc (suc (suc (suc k)))) h = absurd (omega arith)

pub half_part : (w k : ℕ) → k < 4 → k % 2 ≡ 0 → bit_and (w / 2 ^ (8 * k)) 65535 ≡ part_of 2 w k
unfolding part_of
half_part w zero h e = and_mask _ 16 ∙ omega arith
half_part w (suc zero) h e = absurd (omega arith)
half_part w (suc (suc zero)) h e = and_mask _ 16 ∙ omega arith
half_part w (suc (suc (suc zero))) h e = absurd (omega arith)
half_part w (suc (suc (suc (suc k)))) h e = absurd (omega arith)

pub word_part : (w k : ℕ) → w < 2 ^ 32 → k < 4 → k % 4 ≡ 0 → part_of 4 w k ≡ w
unfolding part_of
word_part w zero b h e = omega arith
word_part w (suc k) b h e = absurd (omega arith)

-- ---- signs

-- the same number, whose word is made with 2^32 more where it is negative
extended : (bits n : ℕ) → n < 2 ^ bits → bits ≤ 32 → 2 ^ bits ≤ 2 ^ 32 → sign_extension bits n ≡ cond (nat_lt n (2 ^ (bits - 1))) n (n + (2 ^ 32 - 2 ^ bits))
unfolding sign_extension
extended bits n h b p =
    let z : pos n -ℤ pos (2 ^ bits) +ℤ pos (1 * 2 ^ 32) ≡ pos (n + (2 ^ 32 - 2 ^ bits)) = omega (arith, ints) in
    let e = word_of_is (pos n -ℤ pos (2 ^ bits)) 1 (n + (2 ^ 32 - 2 ^ bits)) z in
    let m : (n + (2 ^ 32 - 2 ^ bits)) % 2 ^ 32 ≡ n + (2 ^ 32 - 2 ^ bits) = omega arith in
    ap (λ w. cond (nat_lt n (2 ^ (bits - 1))) n w) (sym e ∙ m)

pub extended-byte : (n : ℕ) → n < 2 ^ 8 → of_z w32 (to_z w8 n) ≡ sign_extension 8 n
extended-byte n h = rw (extended 8 n h (omega arith) (omega arith)) (grind (arith, ints, nat_tests))

pub extended-half : (n : ℕ) → n < 2 ^ 16 → of_z w32 (to_z w16 n) ≡ sign_extension 16 n
extended-half n h = rw (extended 16 n h (omega arith) (omega arith)) (grind (arith, ints, nat_tests))

pub ruleset signs = (extended-byte, extended-half, to_z-of_z)

-- ---- stores

-- a mask that is taken out of w leaves the bits above and below it
cleared : (k n w : ℕ) → w < 2 ^ 32 → (2 ^ n - 1) * 2 ^ k < 2 ^ 32 → bit_and w (2 ^ 32 - 1 - (2 ^ n - 1) * 2 ^ k) ≡ w / 2 ^ k / 2 ^ n * 2 ^ n * 2 ^ k + w % 2 ^ k
cleared k n w h m =
    let high = w / 2 ^ k in
    let low = w % 2 ^ k in
    let split : high * 2 ^ k + low ≡ w = shr_split w k in
    let both = and-not 32 ((2 ^ n - 1) * 2 ^ k) w m h in
    let block = and_block k (2 ^ n - 1) high 0 low (pow_pos k) (mod_below w (2 ^ k) (pow_pos k)) in
    let field : bit_and (2 ^ n - 1) high ≡ high % 2 ^ n = and_comm (2 ^ n - 1) high ∙ and_mask high n in
    let nothing : bit_and 0 low ≡ 0 = omega (arith, and_le_l 0 low) in
    let taken : bit_and ((2 ^ n - 1) * 2 ^ k) w ≡ high % 2 ^ n * 2 ^ k =
    ap₂ bit_and (sym (add-zero ((2 ^ n - 1) * 2 ^ k))) (sym split) ∙ block ∙ ap₂ (λ x y. x * 2 ^ k + y) field nothing ∙ add-zero (high % 2 ^ n * 2 ^ k) in
    let parts : high * 2 ^ k ≡ high / 2 ^ n * 2 ^ n * 2 ^ k + high % 2 ^ n * 2 ^ k =
    ap (λ x. x * 2 ^ k) (sym (shr_split high n)) ∙ add-mul (high / 2 ^ n * 2 ^ n) (high % 2 ^ n) (2 ^ k) in
    let turned = and_comm w (2 ^ 32 - 1 - (2 ^ n - 1) * 2 ^ k) in
    omega arith

-- the bits of w with n of them from k on replaced by the lowest of v
placed : (k n w v : ℕ) → w < 2 ^ 32 → (2 ^ n - 1) * 2 ^ k < 2 ^ 32 → bit_or (bit_and w (2 ^ 32 - 1 - (2 ^ n - 1) * 2 ^ k)) (v % 2 ^ n * 2 ^ k) ≡ (w / 2 ^ k / 2 ^ n * 2 ^ n + v % 2 ^ n) * 2 ^ k + w % 2 ^ k
placed k n w v h m =
    let above = w / 2 ^ k / 2 ^ n in
    let low = w % 2 ^ k in
    let new = v % 2 ^ n in
    let block = or_block k (above * 2 ^ n) new low 0 (mod_below w (2 ^ k) (pow_pos k)) (pow_pos k) in
    let joined = or_shifted above n new (mod_below v (2 ^ n) (pow_pos n)) in
    let nothing : bit_and low 0 ≡ 0 = omega (arith, and_le_r low 0) in
    let kept : bit_or low 0 ≡ low = or_disjoint low 0 nothing ∙ add-zero low in
    ap₂ bit_or (cleared k n w h m) (sym (add-zero (new * 2 ^ k))) ∙ block ∙ ap₂ (λ x y. x * 2 ^ k + y) joined kept

-- the mask and the value as the code shifts them
shifted : (k n w v : ℕ) → w < 2 ^ 32 → (2 ^ n - 1) * 2 ^ k < 2 ^ 32 → bit_or (bit_and w (2 ^ 32 - 1 - (2 ^ n - 1) * 2 ^ k % 2 ^ 32)) (bit_and v (2 ^ n - 1) * 2 ^ k % 2 ^ 32) ≡ (w / 2 ^ k / 2 ^ n * 2 ^ n + v % 2 ^ n) * 2 ^ k + w % 2 ^ k
shifted k n w v h m =
    let mask : (2 ^ n - 1) * 2 ^ k % 2 ^ 32 ≡ (2 ^ n - 1) * 2 ^ k = omega arith in
    let field = and_mask v n in
    let small : v % 2 ^ n ≤ 2 ^ n - 1 = omega (arith, mod_below v (2 ^ n) (pow_pos n)) in
    let below : v % 2 ^ n * 2 ^ k < 2 ^ 32 = omega (arith, mul-le-mul_right (2 ^ k) small) in
    let value : bit_and v (2 ^ n - 1) * 2 ^ k % 2 ^ 32 ≡ v % 2 ^ n * 2 ^ k = ap (λ x. x * 2 ^ k % 2 ^ 32) field ∙ mod-eq_of_lt below in
    ap₂ (λ x y. bit_or (bit_and w (2 ^ 32 - 1 - x)) y) mask value ∙ placed k n w v h m

pub byte_replaced : (w k v : ℕ) → w < 2 ^ 32 → k < 4 → bit_or (bit_and w (2 ^ 32 - 1 - 255 * 2 ^ (8 * k) % 2 ^ 32)) (bit_and v 255 * 2 ^ (8 * k) % 2 ^ 32) ≡ word_with 1 w k v
unfolding word_with
byte_replaced w zero v b h = shifted 0 8 w v b (omega arith) ∙ omega arith
byte_replaced w (suc zero) v b h = shifted 8 8 w v b (omega arith) ∙ omega arith
byte_replaced w (suc (suc zero)) v b h = shifted 16 8 w v b (omega arith) ∙ omega arith
byte_replaced w (suc (suc (suc zero))) v b h = shifted 24 8 w v b (omega arith) ∙ omega arith
byte_replaced w (suc (suc (suc (suc k)))) v b h = absurd (omega arith)

pub half_replaced : (w k v : ℕ) → w < 2 ^ 32 → k < 4 → k % 2 ≡ 0 → bit_or (bit_and w (2 ^ 32 - 1 - 65535 * 2 ^ (8 * k) % 2 ^ 32)) (bit_and v 65535 * 2 ^ (8 * k) % 2 ^ 32) ≡ word_with 2 w k v
unfolding word_with
half_replaced w zero v b h e = shifted 0 16 w v b (omega arith) ∙ omega arith
half_replaced w (suc zero) v b h e = absurd (omega arith)
half_replaced w (suc (suc zero)) v b h e = shifted 16 16 w v b (omega arith) ∙ omega arith
half_replaced w (suc (suc (suc zero))) v b h e = absurd (omega arith)
half_replaced w (suc (suc (suc (suc k)))) v b h e = absurd (omega arith)

pub word_replaced : (w k v : ℕ) → v < 2 ^ 32 → k < 4 → k % 4 ≡ 0 → word_with 4 w k v ≡ v
unfolding word_with
word_replaced w zero v b h e = omega arith
word_replaced w (suc k) v b h e = absurd (omega arith)
