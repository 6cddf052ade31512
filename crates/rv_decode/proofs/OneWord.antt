-- An instruction has at most one word.
use Rattle.std.proofs.Common.{◌≡◌, ℕ, ℤ, ◌^◌, ◌<◌, Bool, sym, ◌∙◌, arith}
use Rattle.std.proofs.lemmas.Int.{ints}
use Rattle.slack_base.specs.declared.instructions.Instr.{Instr}
use Rattle.slack_base.specs.declared.instructions.Instr.TheVariants.{Lui, Auipc, Jal, Jalr, Branch, Load, Store, Imm, Shift, Reg, Lr, Sc, Amo, Fence, Ecall, Ebreak}
use Rattle.rv_decode.specs.Fields.{opcode_of, rd_of, f3_of, rs1_of, rs2_of, f7_of, funct5_of, aq_of, rl_of, immediate_i, immediate_s, immediate_b, immediate_j, upper_of}
use Rattle.rv_decode.specs.Encodes.{IsRType, IsIType, IsSType, IsBType, IsUType, IsAtomic, Encodes}

-- words with the same fields are one
same : (v w : ℕ) → v < 2 ^ 32 → w < 2 ^ 32 → opcode_of v ≡ opcode_of w → f3_of v ≡ f3_of w → f7_of v ≡ f7_of w → rd_of v ≡ rd_of w → rs1_of v ≡ rs1_of w → rs2_of v ≡ rs2_of w → v ≡ w
same v w p q opcode f3 f7 rd rs1 rs2 = omega arith

same_upper : (v w : ℕ) → v < 2 ^ 32 → w < 2 ^ 32 → opcode_of v ≡ opcode_of w → rd_of v ≡ rd_of w → upper_of v ≡ upper_of w → v ≡ w
same_upper v w p q opcode rd upper = omega arith

i_bits : (v w : ℕ) → v < 2 ^ 32 → w < 2 ^ 32 → immediate_i v ≡ immediate_i w → (f7_of v ≡ f7_of w) × (rs2_of v ≡ rs2_of w)
i_bits v w p q e = (omega (arith, ints), omega (arith, ints))

s_bits : (v w : ℕ) → v < 2 ^ 32 → w < 2 ^ 32 → immediate_s v ≡ immediate_s w → (f7_of v ≡ f7_of w) × (rd_of v ≡ rd_of w)
s_bits v w p q e = (omega (arith, ints), omega (arith, ints))

b_bits : (v w : ℕ) → v < 2 ^ 32 → w < 2 ^ 32 → immediate_b v ≡ immediate_b w → (f7_of v ≡ f7_of w) × (rd_of v ≡ rd_of w)
b_bits v w p q e = (omega (arith, ints), omega (arith, ints))

j_bits : (v w : ℕ) → v < 2 ^ 32 → w < 2 ^ 32 → immediate_j v ≡ immediate_j w → upper_of v ≡ upper_of w
j_bits v w p q e = omega (arith, ints)

-- the words of a format are one
r_one : (v w : ℕ) → v < 2 ^ 32 → w < 2 ^ 32 → (opcode f3 f7 rd rs1 rs2 : ℕ) → IsRType v opcode f3 f7 rd rs1 rs2 → IsRType w opcode f3 f7 rd rs1 rs2 → v ≡ w
r_one v w p q opcode f3 f7 rd rs1 rs2 d e = same v w p q (cc) (cc) (cc) (cc) (cc) (cc)

i_one : (v w : ℕ) → v < 2 ^ 32 → w < 2 ^ 32 → (opcode f3 rd rs1 : ℕ) (z : ℤ) → IsIType v opcode f3 rd rs1 z → IsIType w opcode f3 rd rs1 z → v ≡ w
i_one v w p q opcode f3 rd rs1 z d e =
    let bits = i_bits v w p q (d.has_immediate ∙ sym e.has_immediate) in
    same v w p q (cc) (cc) bits.0 (cc) (cc) bits.1

s_one : (v w : ℕ) → v < 2 ^ 32 → w < 2 ^ 32 → (opcode f3 rs1 rs2 : ℕ) (z : ℤ) → IsSType v opcode f3 rs1 rs2 z → IsSType w opcode f3 rs1 rs2 z → v ≡ w
s_one v w p q opcode f3 rs1 rs2 z d e =
    let bits = s_bits v w p q (d.has_immediate ∙ sym e.has_immediate) in
    same v w p q (cc) (cc) bits.0 bits.1 (cc) (cc)

b_one : (v w : ℕ) → v < 2 ^ 32 → w < 2 ^ 32 → (opcode f3 rs1 rs2 : ℕ) (z : ℤ) → IsBType v opcode f3 rs1 rs2 z → IsBType w opcode f3 rs1 rs2 z → v ≡ w
b_one v w p q opcode f3 rs1 rs2 z d e =
    let bits = b_bits v w p q (d.has_immediate ∙ sym e.has_immediate) in
    same v w p q (cc) (cc) bits.0 bits.1 (cc) (cc)

u_one : (v w : ℕ) → v < 2 ^ 32 → w < 2 ^ 32 → (opcode rd upper : ℕ) → IsUType v opcode rd upper → IsUType w opcode rd upper → v ≡ w
u_one v w p q opcode rd upper d e = same_upper v w p q (cc) (cc) (cc)

atomic_bits : (v w : ℕ) → v < 2 ^ 32 → w < 2 ^ 32 → funct5_of v ≡ funct5_of w → aq_of v ≡ aq_of w → rl_of v ≡ rl_of w → f7_of v ≡ f7_of w
atomic_bits v w p q five aq rl = omega arith

atomic_one : (v w : ℕ) → v < 2 ^ 32 → w < 2 ^ 32 → (funct5 : ℕ) (aq rl : Bool) (rd rs1 rs2 : ℕ) → IsAtomic v funct5 aq rl rd rs1 rs2 → IsAtomic w funct5 aq rl rd rs1 rs2 → v ≡ w
atomic_one v w p q funct5 aq rl rd rs1 rs2 d e =
    same v w p q (cc) (cc) (atomic_bits v w p q (cc) (cc) (cc)) (cc) (cc) (cc)

pub one_word : (v w : ℕ) (i : Instr) → v < 2 ^ 32 → w < 2 ^ 32 → Encodes v i → Encodes w i → v ≡ w
one_word v w (Lui rd upper) p q d e = u_one v w p q _ _ _ d e
one_word v w (Auipc rd upper) p q d e = u_one v w p q _ _ _ d e
one_word v w (Jal rd offset) p q d e =
    same_upper v w p q (cc) (cc) (j_bits v w p q (d.has_immediate ∙ sym e.has_immediate))
one_word v w (Jalr rd rs1 offset) p q d e = i_one v w p q _ _ _ _ _ d e
one_word v w (Branch op rs1 rs2 offset) p q d e = b_one v w p q _ _ _ _ _ d e
one_word v w (Load op rd rs1 offset) p q d e = i_one v w p q _ _ _ _ _ d e
one_word v w (Store op rs1 rs2 offset) p q d e = s_one v w p q _ _ _ _ _ d e
one_word v w (Imm op rd rs1 value) p q d e = i_one v w p q _ _ _ _ _ d e
one_word v w (Shift op rd rs1 amount) p q d e = r_one v w p q _ _ _ _ _ _ d e
one_word v w (Reg op rd rs1 rs2) p q d e = r_one v w p q _ _ _ _ _ _ d e
one_word v w (Lr rd rs1 aq rl) p q d e = atomic_one v w p q _ _ _ _ _ _ d e
one_word v w (Sc rd rs1 rs2 aq rl) p q d e = atomic_one v w p q _ _ _ _ _ _ d e
one_word v w (Amo op rd rs1 rs2 aq rl) p q d e = atomic_one v w p q _ _ _ _ _ _ d e
one_word v w (Fence fence) p q d e = d.is_whole ∙ sym e.is_whole
one_word v w Ecall p q d e = d ∙ sym e
one_word v w Ebreak p q d e = d ∙ sym e
