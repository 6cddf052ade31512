-- The fields of what a word stands for are in their ranges.
use Rattle.std.proofs.Common.{◌≡◌, ℕ, ℤ, pos, negsuc, ◌+◌, ◌*◌, ◌^◌, ◌<◌, ◌+ℤ◌, subst, arith}
use Rattle.std.proofs.lemmas.Int.{ints}
use Rattle.slack_base.specs.declared.instructions.Instr.{Instr}
use Rattle.slack_base.specs.declared.instructions.Instr.TheVariants.{Lui, Auipc, Jal, Jalr, Branch, Load, Store, Imm, Shift, Reg, Lr, Sc, Amo, Fence, Ecall, Ebreak}
use Rattle.rv_decode.specs.Fields.{field, opcode_of, f3_of, immediate_i, immediate_s, immediate_b, immediate_j}
use Rattle.rv_decode.specs.Encodes.{Encodes}
use Rattle.rv_decode.specs.Ranges.{IsEven, IsImmediate, IsBranchOffset, IsJumpOffset, IsInRange}

i_within : (word : ℕ) → IsImmediate (immediate_i word)
i_within word = record { low = omega (arith, ints); high = omega (arith, ints) }

s_within : (word : ℕ) → IsImmediate (immediate_s word)
s_within word = record { low = omega (arith, ints); high = omega (arith, ints) }

-- a difference of even numbers is even
even_difference : (z : ℤ) (a b : ℕ) → z +ℤ pos (2 * b) ≡ pos (2 * a) → IsEven z
even_difference (pos n) a b e = let f : n + 2 * b ≡ 2 * a = omega (arith, ints) in omega arith
even_difference (negsuc n) a b e = let f : n + 1 + 2 * a ≡ 2 * b = omega (arith, ints) in omega arith

b_within : (word : ℕ) → IsBranchOffset (immediate_b word)
b_within word =
    let rest = 2 ^ 10 * field word 7 7 + 2 ^ 4 * field word 30 25 + field word 11 8 in (
      record { low = omega (arith, ints); high = omega (arith, ints) },
      even_difference (immediate_b word) rest (2 ^ 11 * field word 31 31) (omega (arith, ints)),
    )

j_within : (word : ℕ) → IsJumpOffset (immediate_j word)
j_within word =
    let rest = 2 ^ 11 * field word 19 12 + 2 ^ 10 * field word 20 20 + field word 30 21 in (
      record { low = omega (arith, ints); high = omega (arith, ints) },
      even_difference (immediate_j word) rest (2 ^ 19 * field word 31 31) (omega (arith, ints)),
    )

pub in_range : (word : ℕ) (i : Instr) → word < 2 ^ 32 → Encodes word i → IsInRange i
in_range word (Lui rd upper) below e = (omega arith, omega arith)
in_range word (Auipc rd upper) below e = (omega arith, omega arith)
in_range word (Jal rd offset) below e = (omega arith, subst IsJumpOffset e.has_immediate (j_within word))
in_range word (Jalr rd rs1 offset) below e = (omega arith, omega arith, subst IsImmediate e.has_immediate (i_within word))
in_range word (Branch op rs1 rs2 offset) below e = (omega arith, omega arith, subst IsBranchOffset e.has_immediate (b_within word))
in_range word (Load op rd rs1 offset) below e = (omega arith, omega arith, subst IsImmediate e.has_immediate (i_within word))
in_range word (Store op rs1 rs2 offset) below e = (omega arith, omega arith, subst IsImmediate e.has_immediate (s_within word))
in_range word (Imm op rd rs1 value) below e = (omega arith, omega arith, subst IsImmediate e.has_immediate (i_within word))
in_range word (Shift op rd rs1 amount) below e = (omega arith, omega arith, omega arith)
in_range word (Reg op rd rs1 rs2) below e = (omega arith, omega arith, omega arith)
in_range word (Lr rd rs1 aq rl) below e = (omega arith, omega arith)
in_range word (Sc rd rs1 rs2 aq rl) below e = (omega arith, omega arith, omega arith)
in_range word (Amo op rd rs1 rs2 aq rl) below e = (omega arith, omega arith, omega arith)
in_range word (Fence fence) below e = (
  omega arith,
  subst (λ w. opcode_of w ≡ 0b0001111) e.is_whole e.has_opcode,
  subst (λ w. f3_of w ≡ 0b000) e.is_whole e.has_f3,
)
in_range word Ecall below e = tt
in_range word Ebreak below e = tt
