-- The tests of the ranges say what the ranges are.
use Rattle.std.proofs.Common.{◌≡◌, ℕ, ℤ, pos, neg_ℤ, ◌^◌, ◌%◌, ◌<◌, ◌≤ℤ◌, ◌<ℤ◌, Bool, true, false, ◌&&◌, refl, arith, unsigned_abs, Decides}
use Rattle.std.specs.Prelude.{int_le, int_lt}
use Rattle.std.proofs.lemmas.Bool.Decides.{Decides-and, Decides-eqb, Decides-ltb, Decides-like}
use Rattle.std.proofs.lemmas.Int.{ints}
use Rattle.slack_base.specs.declared.instructions.Instr.{Instr}
use Rattle.slack_base.specs.declared.instructions.Instr.TheVariants.{Lui, Auipc, Jal, Jalr, Branch, Load, Store, Imm, Shift, Reg, Lr, Sc, Amo, Fence, Ecall, Ebreak}
use Rattle.rv_decode.specs.Fields.{opcode_of, f3_of}
use Rattle.rv_decode.specs.Ranges.{IsRegister, IsWithin, IsEven, IsInRange}
use Rattle.rv_asm.specs.Ranges.{is_from_to, is_signed, is_even, is_register, is_in_range}

register : (r : ℕ) → Decides (is_register r) (IsRegister r)
register r = Decides-ltb r 32

at_least : (a b : ℤ) → Decides (int_le a b) (a ≤ℤ b)
at_least a b = (λ h. grind (arith, ints), λ h. grind (arith, ints))

below : (a b : ℤ) → Decides (int_lt a b) (a <ℤ b)
below a b = (λ h. grind (arith, ints), λ h. grind (arith, ints))

within : (bits : ℕ) (z : ℤ) → Decides (is_signed bits z) (IsWithin bits z)
within bits z =
    Decides-like _ (λ h. record { low = h.0; high = h.1 }) (λ h. (h.low, h.high))
    (Decides-and _ _ (at_least (neg_ℤ (pos (2 ^ bits))) z) (below z (pos (2 ^ bits))))

even : (z : ℤ) → Decides (is_even z) (IsEven z)
even z = Decides-eqb (unsigned_abs z % 2) 0

two : {P Q : Type 0} (a b : Bool) → Decides a P → Decides b Q → Decides (a && b) (P × Q)
two a b p q = Decides-and a b p q

three : {P Q R : Type 0} (a b c : Bool) → Decides a P → Decides b Q → Decides c R → Decides (a && b && c) (P × Q × R)
three a b c p q r =
    Decides-like _ (λ h. (h.0.0, h.0.1, h.1)) (λ h. ((h.0, h.1), h.2)) (Decides-and (a && b) c (Decides-and a b p q) r)

always : Decides true (Unit {0})
always = (λ h. tt, λ h. refl)

pub in_range : (i : Instr) → Decides (is_in_range i) (IsInRange i)
unfolding is_in_range
in_range (Lui rd upper) = two _ _ (register rd) (Decides-ltb upper (2 ^ 20))
in_range (Auipc rd upper) = two _ _ (register rd) (Decides-ltb upper (2 ^ 20))
in_range (Jal rd offset) = two _ _ (register rd) (two _ _ (within 20 offset) (even offset))
in_range (Jalr rd rs1 offset) = three _ _ _ (register rd) (register rs1) (within 11 offset)
in_range (Branch op rs1 rs2 offset) = three _ _ _ (register rs1) (register rs2) (two _ _ (within 12 offset) (even offset))
in_range (Load op rd rs1 offset) = three _ _ _ (register rd) (register rs1) (within 11 offset)
in_range (Store op rs1 rs2 offset) = three _ _ _ (register rs1) (register rs2) (within 11 offset)
in_range (Imm op rd rs1 value) = three _ _ _ (register rd) (register rs1) (within 11 value)
in_range (Shift op rd rs1 amount) = three _ _ _ (register rd) (register rs1) (Decides-ltb amount 32)
in_range (Reg op rd rs1 rs2) = three _ _ _ (register rd) (register rs1) (register rs2)
in_range (Lr rd rs1 aq rl) = two _ _ (register rd) (register rs1)
in_range (Sc rd rs1 rs2 aq rl) = three _ _ _ (register rd) (register rs1) (register rs2)
in_range (Amo op rd rs1 rs2 aq rl) = three _ _ _ (register rd) (register rs1) (register rs2)
in_range (Fence word) = three _ _ _ (Decides-ltb word (2 ^ 32)) (Decides-eqb (opcode_of word) 0b0001111) (Decides-eqb (f3_of word) 0b000)
in_range Ecall = always
in_range Ebreak = always

fails : {P : Type 0} (b : Bool) → Decides b P → (P → ⊥) → b ≡ false
fails true h k = absurd (k (h.0 refl))
fails false h k = refl

pub out_of_range : (i : Instr) → (IsInRange i → ⊥) → is_in_range i ≡ false
out_of_range i h = fails (is_in_range i) (in_range i) h

-- the tests, where the ranges hold
pub within_31 : (z : ℤ) → IsWithin 31 z → is_signed 31 z ≡ true
within_31 z = (within 31 z).1

pub from_nought : (n : ℕ) → n < 2 ^ 32 → is_from_to (pos 0) (pos (2 ^ 32)) (pos n) ≡ true
from_nought n h = (two _ _ (at_least (pos 0) (pos n)) (below (pos n) (pos (2 ^ 32)))).1 (grind (arith, ints), grind (arith, ints))

pub is_in_its_range : (i : Instr) → IsInRange i → is_in_range i ≡ true
is_in_its_range i = (in_range i).1
