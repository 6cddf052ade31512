-- How the code's casts read and make words.
use Rattle.std.proofs.Common.{◌≡◌, ℕ, suc, ◌+◌, ◌-◌, ◌*◌, ◌/◌, ◌%◌, ◌^◌, ◌<◌, ◌≤◌, ℤ, pos, negsuc, ◌+ℤ◌, ◌-ℤ◌, w32, w64, to_z, of_z, arith, refl, sym, ap, SFits, div-le_self, ◌*ℤ◌, le_trans, ◌∙◌, cond, ne_eqb}
use Rattle.std.specs.Int.{int_div_euclid, int_shr}
use Rattle.std.specs.Prelude.{unsigned_abs, int_div, int_rem}
use lib.Signed.{nat_abs-le}
use Rattle.rv_exec.specs.Alu.{high_of, quotient_of, remainder_of}
use Rattle.std.proofs.lemmas.Int.{ints, int_rem_euclid_is, of_z-to_z, fits_signed_mul}
use Rattle.std.proofs.lemmas.Bool.Decides.{nat_tests}
use Rattle.rv_exec.specs.Words.{signed_of, low_bits, word_of}

-- a word cast to a signed number is its reading
pub signed_of-cast : (w : ℕ) → w < 2 ^ 32 → to_z w32 w ≡ signed_of w
unfolding signed_of
signed_of-cast w h = grind (arith, ints, nat_tests)

-- a signed number cast to a word is its word
pub word_of-cast : (z : ℤ) → SFits w32 z → of_z w32 z ≡ word_of z
unfolding word_of low_bits
word_of-cast (pos n) h = omega arith
word_of-cast (negsuc n) h = omega arith

-- z plus a multiple of 2^32 has the word of z
pub word_of_is : (z : ℤ) (k m : ℕ) → z +ℤ pos (k * 2 ^ 32) ≡ pos m → m % 2 ^ 32 ≡ word_of z
unfolding word_of low_bits
word_of_is z k m h = let e = int_rem_euclid_is z (pos (2 ^ 32)) (2 ^ 32) k m (omega arith) refl h in cc

pub word_of-sum : (a : ℕ) (z : ℤ) → SFits w32 z → (a + of_z w32 z) % 2 ^ 32 ≡ word_of (pos a +ℤ z)
word_of-sum a (pos n) h = word_of_is _ 0 (a + n) (omega (arith, ints))
word_of-sum a (negsuc n) h = word_of_is _ 1 (a + of_z w32 (negsuc n)) (omega (arith, ints))

pub word_of-difference : (a b : ℕ) → b < 2 ^ 32 → (a + (2 ^ 32 - b)) % 2 ^ 32 ≡ word_of (pos a -ℤ pos b)
word_of-difference a b h = word_of_is _ 1 (a + (2 ^ 32 - b)) (omega (arith, ints))

-- a shift that copies the sign divides and rounds down
pub shift-rounds_down : (z : ℤ) (k : ℕ) → int_shr z k ≡ int_div_euclid z (pos (2 ^ k))
shift-rounds_down (pos n) k = refl
shift-rounds_down (negsuc n) k = refl

pub ruleset signed_words = (signed_of-cast, word_of-cast, word_of-sum, word_of-difference, shift-rounds_down)

-- the same at 64 bits, and what stands in the high word
pub high_of-cast : (z : ℤ) → SFits w64 z → of_z w64 z / 2 ^ 32 ≡ high_of z
unfolding high_of low_bits
high_of-cast (pos n) h = let e : n % 2 ^ 64 ≡ n = omega arith in ap (λ m. m / 2 ^ 32) (sym e)
high_of-cast (negsuc n) h = let e : 2 ^ 64 - 1 - n % 2 ^ 64 ≡ 2 ^ 64 - suc n = omega arith in ap (λ m. m / 2 ^ 32) (sym e)

pub high_of-natural : (n : ℕ) → n < 2 ^ 64 → n / 2 ^ 32 ≡ high_of (pos n)
unfolding high_of low_bits
high_of-natural n h = let e : n % 2 ^ 64 ≡ n = omega arith in ap (λ m. m / 2 ^ 32) (sym e)

-- a quotient toward zero is no further from zero than its dividend
pub quotient-closer : (a b : ℤ) → unsigned_abs (int_div a b) ≤ unsigned_abs a
quotient-closer (pos a) (pos b) = div-le_self a b
quotient-closer (pos a) (negsuc b) = grind (arith, ints, div-le_self)
quotient-closer (negsuc a) (pos b) = grind (arith, ints, div-le_self)
quotient-closer (negsuc a) (negsuc b) = div-le_self (suc a) (suc b)

word_of-near : (z : ℤ) → unsigned_abs z ≤ 2 ^ 31 → of_z w32 z ≡ word_of z
unfolding word_of low_bits
word_of-near (pos n) h = omega arith
word_of-near (negsuc n) h = omega arith

pub word_of-below : (z : ℤ) → word_of z < 2 ^ 32
unfolding word_of low_bits
word_of-below (pos n) = omega arith
word_of-below (negsuc n) = omega arith

-- the quotient 2^31 doesn't fit, and its word is -2^31's
pub word_of-quotient : (a b : ℤ) → SFits w32 a → of_z w32 (to_z w32 (of_z w32 (int_div a b))) ≡ word_of (int_div a b)
word_of-quotient a b h =
    let near : unsigned_abs (int_div a b) ≤ 2 ^ 31 = le_trans (quotient-closer a b) (nat_abs-le a h.sfits) in
    let word = word_of-near (int_div a b) near in
    let below : of_z w32 (int_div a b) < 2 ^ 32 = omega (arith, word_of-below (int_div a b)) in
    of_z-to_z w32 (of_z w32 (int_div a b)) below ∙ word

-- the quotient and the remainder where the divisor isn't 0
pub quotient-nonzero : (a b : ℕ) → (b ≡ 0 → ⊥) → quotient_of a b ≡ word_of (int_div (signed_of a) (signed_of b))
unfolding quotient_of
quotient-nonzero a b h = ap (λ t. cond t (2 ^ 32 - 1) (word_of (int_div (signed_of a) (signed_of b)))) (ne_eqb b 0 h)

pub remainder-nonzero : (a b : ℕ) → (b ≡ 0 → ⊥) → remainder_of a b ≡ word_of (int_rem (signed_of a) (signed_of b))
unfolding remainder_of
remainder-nonzero a b h = ap (λ t. cond t a (word_of (int_rem (signed_of a) (signed_of b)))) (ne_eqb b 0 h)

-- the product of two words, at least one of them signed, fits 64 bits
pub product-fits : (x y : ℤ) → unsigned_abs x ≤ 2 ^ 31 → unsigned_abs y ≤ 2 ^ 32 - 1 → SFits w64 (x *ℤ y)
product-fits x y p q = fits_signed_mul w64 x y (2 ^ 31) (2 ^ 32 - 1) p q (omega arith)

pub near-signed : (x y : ℤ) → x ≡ y → SFits w32 y → unsigned_abs x ≤ 2 ^ 31
near-signed x y e h = rw e (nat_abs-le y h.sfits)

pub near-unsigned : (x : ℤ) (n : ℕ) → x ≡ pos n → n < 2 ^ 32 → unsigned_abs x ≤ 2 ^ 32 - 1
near-unsigned x n e h = rw e (omega arith)
