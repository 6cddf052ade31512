-- Tests of whether two numbers are the same.
use Rattle.std.proofs.Common.{◌≡◌, ◌≢◌, ◌==◌, ℕ, true, false, arith}
use Rattle.std.proofs.lemmas.Bool.Decides.{nat_tests}

pub eq_is : (m n : ℕ) → m ≡ n → (m == n) ≡ true
eq_is m n h = grind (arith, nat_tests)

pub eq_is_not : (m n : ℕ) → m ≢ n → (m == n) ≡ false
eq_is_not m n h = grind (arith, nat_tests)

pub eq_of : (m n : ℕ) → (m == n) ≡ true → m ≡ n
eq_of m n h = grind (arith, nat_tests)

pub not_eq_of : (m n : ℕ) → (m == n) ≡ false → m ≢ n
not_eq_of m n h = grind (arith, nat_tests)
