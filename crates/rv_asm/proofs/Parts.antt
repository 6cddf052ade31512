-- The parts of a text round the first byte that passes a test.
use Rattle.std.proofs.Common.{◌≡◌, ℕ, ◌<◌, ◌≤◌, Bool, true, false, cond, List, length, Option, Some, None, option_and_then, refl, ap, arith, ltb, eqb}
use Rattle.std.specs.List.{position_or_len, before_first, after_first}
use Rattle.std.proofs.lemmas.Bool.Decides.{nat_tests}
use Rattle.rv_asm.specs.Bytes.{parts_at}

-- what is given only where a test holds
pub chosen_some : {A : Type 0} (b : Bool) (x y : A) → cond b (Some x) None ≡ Some y → (b ≡ true) × (x ≡ y)
chosen_some true x y h = (refl, cc)
chosen_some false x y h = absurd cc

pub chosen_none : {A : Type 0} (b : Bool) (x : A) → cond b (Some x) None ≡ None → b ≡ false
chosen_none true x h = absurd cc
chosen_none false x h = refl

pub bound_some : {A B : Type 0} (f : A → Option B) (o : Option A) (y : B) → option_and_then f o ≡ Some y → (x : A) × (o ≡ Some x) × (f x ≡ Some y)
bound_some f None y h = absurd cc
bound_some f (Some x) y h = (x, refl, h)

-- where the byte stands in the text
pub parts_some : (byte : ℕ) (text : List ℕ) (parts : List ℕ × List ℕ) → parts_at byte text ≡ Some parts → (position_or_len (λ b. eqb b byte) text < length text) × (before_first (λ b. eqb b byte) text ≡ parts.0) × (after_first (λ b. eqb b byte) text ≡ parts.1)
unfolding parts_at
parts_some byte text parts h =
    let whole : List ℕ × List ℕ = (before_first (λ b. eqb b byte) text, after_first (λ b. eqb b byte) text) in
    let k = chosen_some (ltb (position_or_len (λ b. eqb b byte) text) (length text)) whole parts h in
    let test = k.0 in
    (grind (arith, nat_tests), ap (λ p. p.0) k.1, ap (λ p. p.1) k.1)

-- where it doesn't
pub parts_none : (byte : ℕ) (text : List ℕ) → parts_at byte text ≡ None → length text ≤ position_or_len (λ b. eqb b byte) text
unfolding parts_at
parts_none byte text h =
    let whole : List ℕ × List ℕ = (before_first (λ b. eqb b byte) text, after_first (λ b. eqb b byte) text) in
    let test = chosen_none (ltb (position_or_len (λ b. eqb b byte) text) (length text)) whole h in
    grind (arith, nat_tests)
