-- The operands of instructions' texts, read.
use Rattle.std.proofs.Common.{◌≡◌, ℕ, ℤ, pos, ◌^◌, ◌<◌, ◌≤◌, true, cond, List, [], ◌∷◌, ◌++◌, Result, Ok, Err, unsigned_abs, refl, ap, ◌∙◌, arith, codes}
use Rattle.std.specs.Fmt.{decimal, signed_decimal}
use Rattle.std.specs.List.{list_all}
use Rattle.std.specs.Option.{ok_or}
use Rattle.std.proofs.lemmas.Int.{ints}
use Rattle.slack_base.specs.declared.faults.AsmKind.{AsmKind}
use Rattle.slack_base.specs.declared.faults.AsmKind.TheVariants.{Operand, Range}
use Rattle.rv_decode.specs.Ranges.{IsWithin}
use Rattle.rv_decode.specs.Texts.{register, behind}
use Rattle.rv_asm.specs.Bytes.{trim, trim_start, trim_end, without_suffix}
use Rattle.rv_asm.specs.Instructions.{register_upper, register_displaced, register_target, registers_target, registers_number, registers_address}
use Rattle.rv_asm.specs.Kinds.{◌>>=◌}
use Rattle.rv_asm.specs.Numbers.{number_of}
use Rattle.rv_asm.specs.Operands.{Places, divided, nothing, memory, address, displaced, label_at, target, two_registers, three_registers, register_and, two_registers_and}
use Rattle.rv_asm.specs.Ranges.{signed, unsigned}
use Rattle.rv_asm.specs.Registers.{register_of}
use Rattle.rv_asm.proofs.InRange.{within_31, from_nought}
use Rattle.rv_asm.proofs.Pieces.{parts_of, same_trimmed, space_trimmed, front_of, IsTight, tight_both, bare}
use Rattle.rv_asm.proofs.Spelling.{is_inner, inner_but, inner_tight, register_inner, register_some, register_read, number_read, number_no_name, signed_inner, signed_some, decimal_inner, decimal_some}

-- a number that every field with a sign can take in
pub record IsSmall (z : ℤ) : Type 0 where
  pub size : unsigned_abs z < 2 ^ 32
  pub within : IsWithin 31 z

pub small : (bits : ℕ) (z : ℤ) → (2 ^ bits ≤ 2 ^ 20) → IsWithin bits z → IsSmall z
small bits z h w =
    let low = w.low in
    let high = w.high in
    record {
      size = grind (arith, ints);
      within = record { low = grind (arith, ints); high = grind (arith, ints) };
    }

-- a number without a sign that is below 32
pub positive : (n : ℕ) → n < 32 → IsWithin 11 (pos n)
positive n h = record { low = grind (arith, ints); high = grind (arith, ints) }

pub register_tight : (r : ℕ) → r < 32 → IsTight (register r)
register_tight r h = inner_tight (register r) (register_some r) (register_inner r h)

pub number_tight : (z : ℤ) → IsSmall z → IsTight (signed_decimal z)
number_tight z h = inner_tight (signed_decimal z) (signed_some z h.size) (signed_inner z h.size)

pub upper_tight : (n : ℕ) → n < 2 ^ 32 → IsTight (decimal n)
upper_tight n h = inner_tight (decimal n) (decimal_some n h) (decimal_inner n h)

-- a register and what comes after it
pub more_tight : (r : ℕ) (ys : List ℕ) → r < 32 → IsTight ys → IsTight (register r ++ (44 ∷ 32 ∷ ys))
more_tight r ys h p = tight_both (44 ∷ 32 ∷ []) (register_tight r h) p

closed : IsTight (41 ∷ [])
closed = bare (41 ∷ []) (omega arith) refl

pub behind_tight : (r : ℕ) → IsTight (behind r)
behind_tight r = tight_both {xs = 40 ∷ []} {ys = 41 ∷ []} (register r) (bare (40 ∷ []) (omega arith) refl) closed

pub displaced_tight : (z : ℤ) (r : ℕ) → IsSmall z → IsTight (signed_decimal z ++ behind r)
displaced_tight z r h = tight_both {xs = signed_decimal z} {ys = 41 ∷ []} (40 ∷ register r) (number_tight z h) closed

-- two operands, divided by a comma and a space
two_parts : (xs ys : List ℕ) → IsTight xs → list_all is_inner xs ≡ true → IsTight ys → divided 44 (xs ++ (44 ∷ 32 ∷ ys)) ≡ Ok (xs, ys)
unfolding divided
two_parts xs ys p inner q =
    let answer : Type 0 = Result (List ℕ × List ℕ) AsmKind in
    ap {B = answer} (λ o. ok_or o Operand >>= λ parts. Ok (trim parts.0, trim parts.1)) (parts_of 44 xs (32 ∷ ys) (inner_but 44 xs (omega arith) inner) refl)
    ∙ ap {B = answer} (λ t. Ok (t, trim (32 ∷ ys))) (same_trimmed xs p)
    ∙ ap {B = answer} (λ t. Ok (xs, t)) (space_trimmed ys q)

first_part : (r : ℕ) (ys : List ℕ) → r < 32 → IsTight ys → divided 44 (register r ++ (44 ∷ 32 ∷ ys)) ≡ Ok (register r, ys)
first_part r ys h q = two_parts (register r) ys (register_tight r h) (register_inner r h) q

pub first_read : (r : ℕ) (ys : List ℕ) → r < 32 → IsTight ys → register_and (register r ++ (44 ∷ 32 ∷ ys)) ≡ Ok (r, ys)
unfolding register_and
first_read r ys h q =
    let answer : Type 0 = Result (ℕ × List ℕ) AsmKind in
    ap {B = answer} (λ p. p >>= λ parts. register_of parts.0 >>= λ first. Ok (first, parts.1)) (first_part r ys h q)
    ∙ ap {B = answer} (λ p. p >>= λ first. Ok (first, ys)) (register_read r h)

pub two_read : (a b : ℕ) (ys : List ℕ) → a < 32 → b < 32 → IsTight ys → two_registers_and (register a ++ (44 ∷ 32 ∷ (register b ++ (44 ∷ 32 ∷ ys)))) ≡ Ok (a, b, ys)
unfolding two_registers_and
two_read a b ys h k q =
    let answer : Type 0 = Result (ℕ × ℕ × List ℕ) AsmKind in
    ap {B = answer} (λ p. p >>= λ first. register_and first.1 >>= λ second. Ok (first.0, second.0, second.1)) (first_read a (register b ++ (44 ∷ 32 ∷ ys)) h (more_tight b ys k q))
    ∙ ap {B = answer} (λ p. p >>= λ second. Ok (a, second.0, second.1)) (first_read b ys k q)

pair_read : (a b : ℕ) → a < 32 → b < 32 → two_registers (register a ++ (44 ∷ 32 ∷ register b)) ≡ Ok (a, b)
unfolding two_registers
pair_read a b h k =
    let answer : Type 0 = Result (ℕ × ℕ) AsmKind in
    ap {B = answer} (λ p. p >>= λ parts. register_of parts.0 >>= λ first. register_of parts.1 >>= λ second. Ok (first, second)) (first_part a (register b) h (register_tight b k))
    ∙ ap {B = answer} (λ p. p >>= λ first. register_of (register b) >>= λ second. Ok (first, second)) (register_read a h)
    ∙ ap {B = answer} (λ p. p >>= λ second. Ok (a, second)) (register_read b k)

pub three_read : (a b c : ℕ) → a < 32 → b < 32 → c < 32 → three_registers (register a ++ (44 ∷ 32 ∷ (register b ++ (44 ∷ 32 ∷ register c)))) ≡ Ok (a, b, c)
unfolding three_registers
three_read a b c h k l =
    let answer : Type 0 = Result (ℕ × ℕ × ℕ) AsmKind in
    let others = register b ++ (44 ∷ 32 ∷ register c) in
    ap {B = answer} (λ p. p >>= λ parts. register_of parts.0 >>= λ first. two_registers parts.1 >>= λ more. Ok (first, more.0, more.1)) (first_part a others h (more_tight b (register c) k (register_tight c l)))
    ∙ ap {B = answer} (λ p. p >>= λ first. two_registers others >>= λ more. Ok (first, more.0, more.1)) (register_read a h)
    ∙ ap {B = answer} (λ p. p >>= λ more. Ok (a, more.0, more.1)) (pair_read b c k l)

-- a register in brackets, and what stands before it
inner_trimmed : (text : List ℕ) → list_all is_inner text ≡ true → trim text ≡ text
unfolding trim trim_start trim_end
inner_trimmed [] h = refl
inner_trimmed (x ∷ xs) h = same_trimmed (x ∷ xs) (inner_tight (x ∷ xs) (omega arith) h)

brackets : (xs : List ℕ) (r : ℕ) → r < 32 → list_all is_inner xs ≡ true → divided 40 (xs ++ behind r) ≡ Ok (xs, register r ++ (41 ∷ []))
unfolding divided
brackets xs r h inner =
    let answer : Type 0 = Result (List ℕ × List ℕ) AsmKind in
    let inside = register r ++ (41 ∷ []) in
    ap {B = answer} (λ o. ok_or o Operand >>= λ parts. Ok (trim parts.0, trim parts.1)) (parts_of 40 xs inside (inner_but 40 xs (omega arith) inner) refl)
    ∙ ap {B = answer} (λ t. Ok (t, trim inside)) (inner_trimmed xs inner)
    ∙ ap {B = answer} (λ t. Ok (xs, t)) (same_trimmed inside (tight_both {xs = register r} {ys = 41 ∷ []} [] (register_tight r h) closed))

memory_read : (xs : List ℕ) (r : ℕ) → r < 32 → list_all is_inner xs ≡ true → memory (xs ++ behind r) ≡ Ok (xs, r)
unfolding memory
memory_read xs r h inner =
    let answer : Type 0 = Result (List ℕ × ℕ) AsmKind in
    ap {B = answer} (λ p. p >>= λ parts. ok_or (without_suffix (codes ")") parts.1) Operand >>= λ inside. register_of (trim inside) >>= λ base. Ok (parts.0, base)) (brackets xs r h inner)
    ∙ ap {B = answer} (λ o. ok_or o Operand >>= λ inside. register_of (trim inside) >>= λ base. Ok (xs, base)) (front_of (register r) (41 ∷ []))
    ∙ ap {B = answer} (λ t. register_of t >>= λ base. Ok (xs, base)) (same_trimmed (register r) (register_tight r h))
    ∙ ap {B = answer} (λ p. p >>= λ base. Ok (xs, base)) (register_read r h)

pub address_read : (r : ℕ) → r < 32 → address (behind r) ≡ Ok r
unfolding address nothing
address_read r h = ap (λ p. p >>= λ parts. nothing parts.0 >>= λ _. Ok parts.1) (memory_read [] r h refl)

displaced_read : (z : ℤ) (r : ℕ) → r < 32 → IsSmall z → displaced (signed_decimal z ++ behind r) ≡ Ok (z, r)
unfolding displaced
displaced_read z r h k =
    let answer : Type 0 = Result (ℤ × ℕ) AsmKind in
    ap {B = answer} (λ p. p >>= λ parts. number_of parts.0 >>= λ number. Ok (number, parts.1)) (memory_read (signed_decimal z) r h (signed_inner z k.size))
    ∙ ap {B = answer} (λ p. p >>= λ number. Ok (number, r)) (number_read z k.size)

target_read : (places : Places) (here : ℕ) (z : ℤ) → IsSmall z → target places here (signed_decimal z) ≡ Ok z
unfolding target
target_read places here z k =
    ap (λ b. cond b (label_at places here (signed_decimal z)) (number_of (signed_decimal z))) (number_no_name z k.size) ∙ number_read z k.size

pub signed_read : (z : ℤ) → IsSmall z → signed z ≡ Ok z
unfolding signed
signed_read z k = ap (λ b. cond b (Ok z) (Err Range)) (within_31 z k.within)

pub unsigned_read : (n : ℕ) → n < 2 ^ 32 → unsigned (pos n) ≡ Ok n
unfolding unsigned
unsigned_read n h = ap (λ b. cond b (Ok n) (Err Range)) (from_nought n h)

-- the operands of each kind of instruction
pub upper_read : (r n : ℕ) → r < 32 → n < 2 ^ 32 → register_upper (register r ++ (44 ∷ 32 ∷ decimal n)) ≡ Ok (r, n)
unfolding register_upper
upper_read r n h k =
    let answer : Type 0 = Result (ℕ × ℕ) AsmKind in
    ap {B = answer} (λ p. p >>= λ first. number_of first.1 >>= λ number. unsigned number >>= λ upper. Ok (first.0, upper)) (first_read r (decimal n) h (upper_tight n k))
    ∙ ap {B = answer} (λ p. p >>= λ number. unsigned number >>= λ upper. Ok (r, upper)) (number_read (pos n) k)
    ∙ ap {B = answer} (λ p. p >>= λ upper. Ok (r, upper)) (unsigned_read n k)

pub register_displaced_read : (a b : ℕ) (z : ℤ) → a < 32 → b < 32 → IsSmall z → register_displaced (register a ++ (44 ∷ 32 ∷ (signed_decimal z ++ behind b))) ≡ Ok (a, b, z)
unfolding register_displaced
register_displaced_read a b z h k small =
    let answer : Type 0 = Result (ℕ × ℕ × ℤ) AsmKind in
    ap {B = answer} (λ p. p >>= λ first. displaced first.1 >>= λ place. signed place.0 >>= λ offset. Ok (first.0, place.1, offset)) (first_read a (signed_decimal z ++ behind b) h (displaced_tight z b small))
    ∙ ap {B = answer} (λ p. p >>= λ place. signed place.0 >>= λ offset. Ok (a, place.1, offset)) (displaced_read z b k small)
    ∙ ap {B = answer} (λ p. p >>= λ offset. Ok (a, b, offset)) (signed_read z small)

pub register_target_read : (places : Places) (here r : ℕ) (z : ℤ) → r < 32 → IsSmall z → register_target places here (register r ++ (44 ∷ 32 ∷ signed_decimal z)) ≡ Ok (r, z)
unfolding register_target
register_target_read places here r z h small =
    let answer : Type 0 = Result (ℕ × ℤ) AsmKind in
    ap {B = answer} (λ p. p >>= λ first. target places here first.1 >>= λ distance. signed distance >>= λ offset. Ok (first.0, offset)) (first_read r (signed_decimal z) h (number_tight z small))
    ∙ ap {B = answer} (λ p. p >>= λ distance. signed distance >>= λ offset. Ok (r, offset)) (target_read places here z small)
    ∙ ap {B = answer} (λ p. p >>= λ offset. Ok (r, offset)) (signed_read z small)

pub registers_target_read : (places : Places) (here a b : ℕ) (z : ℤ) → a < 32 → b < 32 → IsSmall z → registers_target places here (register a ++ (44 ∷ 32 ∷ (register b ++ (44 ∷ 32 ∷ signed_decimal z)))) ≡ Ok (a, b, z)
unfolding registers_target
registers_target_read places here a b z h k small =
    let answer : Type 0 = Result (ℕ × ℕ × ℤ) AsmKind in
    ap {B = answer} (λ p. p >>= λ two. target places here two.2 >>= λ distance. signed distance >>= λ offset. Ok (two.0, two.1, offset)) (two_read a b (signed_decimal z) h k (number_tight z small))
    ∙ ap {B = answer} (λ p. p >>= λ distance. signed distance >>= λ offset. Ok (a, b, offset)) (target_read places here z small)
    ∙ ap {B = answer} (λ p. p >>= λ offset. Ok (a, b, offset)) (signed_read z small)

pub registers_number_read : (a b : ℕ) (z : ℤ) → a < 32 → b < 32 → IsSmall z → registers_number (register a ++ (44 ∷ 32 ∷ (register b ++ (44 ∷ 32 ∷ signed_decimal z)))) ≡ Ok (a, b, z)
unfolding registers_number
registers_number_read a b z h k small =
    let answer : Type 0 = Result (ℕ × ℕ × ℤ) AsmKind in
    ap {B = answer} (λ p. p >>= λ two. number_of two.2 >>= λ number. Ok (two.0, two.1, number)) (two_read a b (signed_decimal z) h k (number_tight z small))
    ∙ ap {B = answer} (λ p. p >>= λ number. Ok (a, b, number)) (number_read z small.size)

pub registers_address_read : (a b c : ℕ) → a < 32 → b < 32 → c < 32 → registers_address (register a ++ (44 ∷ 32 ∷ (register b ++ (44 ∷ 32 ∷ behind c)))) ≡ Ok (a, b, c)
unfolding registers_address
registers_address_read a b c h k l =
    let answer : Type 0 = Result (ℕ × ℕ × ℕ) AsmKind in
    ap {B = answer} (λ p. p >>= λ two. address two.2 >>= λ base. Ok (two.0, two.1, base)) (two_read a b (behind c) h k (behind_tight c))
    ∙ ap {B = answer} (λ p. p >>= λ base. Ok (a, b, base)) (address_read c l)
