-- The ranges of an instruction's fields.
use Rattle.std.specs.Prelude.{◌≡◌, ℕ, ℤ, pos, neg_ℤ, ◌%◌, ◌^◌, ◌<◌, ◌≤ℤ◌, ◌<ℤ◌, unsigned_abs}
use Rattle.slack_base.specs.declared.instructions.Instr.{Instr}
use Rattle.slack_base.specs.declared.instructions.Instr.TheVariants.{Lui, Auipc, Jal, Jalr, Branch, Load, Store, Imm, Shift, Reg, Lr, Sc, Amo, Fence, Ecall, Ebreak}
use Rattle.rv_decode.specs.Fields.{opcode_of, f3_of}

-- the name of a register
abbrev pub IsRegister : ℕ → Type 0
IsRegister r = r < 32

-- a number in two's complement of so many bits: the sign's and these
pub record IsWithin (bits : ℕ) (z : ℤ) : Type 0 where
  pub low : neg_ℤ (pos (2 ^ bits)) ≤ℤ z
  pub high : z <ℤ pos (2 ^ bits)

abbrev pub IsEven : ℤ → Type 0
IsEven z = unsigned_abs z % 2 ≡ 0

-- from -2048 to 2047
abbrev pub IsImmediate : ℤ → Type 0
IsImmediate z = IsWithin 11 z

-- even, from -4096 to 4094
abbrev pub IsBranchOffset : ℤ → Type 0
IsBranchOffset z = IsWithin 12 z × IsEven z

-- even, from -1048576 to 1048574
abbrev pub IsJumpOffset : ℤ → Type 0
IsJumpOffset z = IsWithin 20 z × IsEven z

-- the instruction's fields are in their ranges
abbrev pub IsInRange : Instr → Type 0
IsInRange (Lui rd upper) = IsRegister rd × (upper < 2 ^ 20)
IsInRange (Auipc rd upper) = IsRegister rd × (upper < 2 ^ 20)
IsInRange (Jal rd offset) = IsRegister rd × IsJumpOffset offset
IsInRange (Jalr rd rs1 offset) = IsRegister rd × IsRegister rs1 × IsImmediate offset
IsInRange (Branch op rs1 rs2 offset) = IsRegister rs1 × IsRegister rs2 × IsBranchOffset offset
IsInRange (Load op rd rs1 offset) = IsRegister rd × IsRegister rs1 × IsImmediate offset
IsInRange (Store op rs1 rs2 offset) = IsRegister rs1 × IsRegister rs2 × IsImmediate offset
IsInRange (Imm op rd rs1 value) = IsRegister rd × IsRegister rs1 × IsImmediate value
IsInRange (Shift op rd rs1 amount) = IsRegister rd × IsRegister rs1 × (amount < 32)
IsInRange (Reg op rd rs1 rs2) = IsRegister rd × IsRegister rs1 × IsRegister rs2
IsInRange (Lr rd rs1 aq rl) = IsRegister rd × IsRegister rs1
IsInRange (Sc rd rs1 rs2 aq rl) = IsRegister rd × IsRegister rs1 × IsRegister rs2
IsInRange (Amo op rd rs1 rs2 aq rl) = IsRegister rd × IsRegister rs1 × IsRegister rs2
IsInRange (Fence word) = (word < 2 ^ 32) × (opcode_of word ≡ 0b0001111) × (f3_of word ≡ 0b000)
IsInRange Ecall = Unit {0}
IsInRange Ebreak = Unit {0}
