-- An address is aligned where its part below the word is.
use Rattle.std.proofs.Common.{◌≡◌, ℕ, ◌%◌, eqb, true, arith, ap, eq-eqb}

pub whole : (a : ℕ) → eqb (a % 1) 0 ≡ true
whole a = eq-eqb (a % 1) 0 (omega arith)

pub half_word : (a : ℕ) → eqb (a % 4 % 2) 0 ≡ eqb (a % 2) 0
half_word a = let e : a % 4 % 2 ≡ a % 2 = omega arith in ap (λ n. eqb n 0) e

pub word : (a : ℕ) → eqb (a % 4 % 4) 0 ≡ eqb (a % 4) 0
word a = let e : a % 4 % 4 ≡ a % 4 = omega arith in ap (λ n. eqb n 0) e

pub ruleset in_word = (whole, half_word, word)
