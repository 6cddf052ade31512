-- A leg ends.
use Rattle.std.proofs.Common.{◌≡◌, ◌∙◌, ◌⊎◌, inl, inr, ℕ, ◌+◌, ◌-◌, ◌*◌, ◌<◌, ◌≤◌, List, ◌++◌, length, ap, arith}
use Rattle.std.proofs.lemmas.List.{length-append}
use Rattle.std.proofs.Math.Nat.{mul-le-mul_right}

-- what is left to be raised and served
abbrev left : (end global most first count : ℕ) → ℕ
left end global most first count = (end - global) + (most - (count - first))

-- it falls in a turn that raised or served
left_less : (end g h most first n m : ℕ) → g < end → n - first < most → first ≤ n → g ≤ h → n ≤ m → (g < h) ⊎ (n < m) → left end h most first m < left end g most first n
left_less end g h most first n m below few within rises grows more = elim more [ inl raised ↦ omega arith | inr served ↦ omega arith ]

weighed : (a b p i : ℕ) → b < a → i ≤ p + 1 → b * (p + 2) + ((p + 1) - 0) < a * (p + 2) + ((p + 1) - i)
weighed a b p i less idle =
    let at : (b + 1) * (p + 2) ≤ a * (p + 2) = mul-le-mul_right (p + 2) (omega arith) in
    let one : (b + 1) * (p + 2) ≡ b * (p + 2) + (p + 2) = grind arith in
    omega (arith, at, one)

pub busy_less : (end g h most first n m p i : ℕ) → g < end → n - first < most → first ≤ n → g ≤ h → n ≤ m → (g < h) ⊎ (n < m) → i ≤ p + 1
    → left end h most first m * (p + 2) + ((p + 1) - 0) < left end g most first n * (p + 2) + ((p + 1) - i)
busy_less end g h most first n m p i below few within rises grows more idle =
    weighed (left end g most first n) (left end h most first m) p i (left_less end g h most first n m below few within rises grows more) idle

-- a list that grew
pub no_fewer : {X : Type 0} (old new more : List X) → new ≡ old ++ more → length old ≤ length new
no_fewer old new more e = let whole : length new ≡ length old + length more = ap length e ∙ length-append old more in omega (arith, whole)
