-- The table of instructions: which word stands for which instruction. The formats are those of the RISC-V
-- Unprivileged ISA (20191213, chapters 2.2, 2.3 and 8), the rows those of its chapter 24.
use Rattle.std.specs.Prelude.{◌≡◌, ℕ, ℤ, Bool}
use Rattle.slack_base.specs.declared.instructions.Instr.{Instr}
use Rattle.slack_base.specs.declared.instructions.Instr.TheVariants.{Lui, Auipc, Jal, Jalr, Branch, Load, Store, Imm, Shift, Reg, Lr, Sc, Amo, Fence, Ecall, Ebreak}
use Rattle.rv_decode.specs.Fields.{opcode_of, rd_of, f3_of, rs1_of, rs2_of, f7_of, funct5_of, aq_of, rl_of, bit_of, immediate_i, immediate_s, immediate_b, immediate_j, upper_of}
use Rattle.rv_decode.specs.Operations.{branch_f3, load_f3, store_f3, imm_f3, shift_f3, shift_f7, reg_f3, reg_f7, amo_funct5}

pub record IsRType (word opcode f3 f7 rd rs1 rs2 : ℕ) : Type 0 where
  pub has_opcode : opcode_of word ≡ opcode
  pub has_f3 : f3_of word ≡ f3
  pub has_f7 : f7_of word ≡ f7
  pub has_rd : rd_of word ≡ rd
  pub has_rs1 : rs1_of word ≡ rs1
  pub has_rs2 : rs2_of word ≡ rs2

pub record IsIType (word opcode f3 rd rs1 : ℕ) (immediate : ℤ) : Type 0 where
  pub has_opcode : opcode_of word ≡ opcode
  pub has_f3 : f3_of word ≡ f3
  pub has_rd : rd_of word ≡ rd
  pub has_rs1 : rs1_of word ≡ rs1
  pub has_immediate : immediate_i word ≡ immediate

pub record IsSType (word opcode f3 rs1 rs2 : ℕ) (immediate : ℤ) : Type 0 where
  pub has_opcode : opcode_of word ≡ opcode
  pub has_f3 : f3_of word ≡ f3
  pub has_rs1 : rs1_of word ≡ rs1
  pub has_rs2 : rs2_of word ≡ rs2
  pub has_immediate : immediate_s word ≡ immediate

pub record IsBType (word opcode f3 rs1 rs2 : ℕ) (immediate : ℤ) : Type 0 where
  pub has_opcode : opcode_of word ≡ opcode
  pub has_f3 : f3_of word ≡ f3
  pub has_rs1 : rs1_of word ≡ rs1
  pub has_rs2 : rs2_of word ≡ rs2
  pub has_immediate : immediate_b word ≡ immediate

pub record IsUType (word opcode rd upper : ℕ) : Type 0 where
  pub has_opcode : opcode_of word ≡ opcode
  pub has_rd : rd_of word ≡ rd
  pub has_upper : upper_of word ≡ upper

pub record IsJType (word opcode rd : ℕ) (immediate : ℤ) : Type 0 where
  pub has_opcode : opcode_of word ≡ opcode
  pub has_rd : rd_of word ≡ rd
  pub has_immediate : immediate_j word ≡ immediate

-- an atomic instruction on a word of memory: an R format whose f7 is funct5, aq and rl
pub record IsAtomic (word funct5 : ℕ) (aq rl : Bool) (rd rs1 rs2 : ℕ) : Type 0 where
  pub has_opcode : opcode_of word ≡ 0b0101111
  pub has_f3 : f3_of word ≡ 0b010
  pub has_funct5 : funct5_of word ≡ funct5
  pub has_aq : aq_of word ≡ bit_of aq
  pub has_rl : rl_of word ≡ bit_of rl
  pub has_rd : rd_of word ≡ rd
  pub has_rs1 : rs1_of word ≡ rs1
  pub has_rs2 : rs2_of word ≡ rs2

-- a FENCE is kept as its whole word, since all other bits are free
pub record IsFence (word fence : ℕ) : Type 0 where
  pub has_opcode : opcode_of word ≡ 0b0001111
  pub has_f3 : f3_of word ≡ 0b000
  pub is_whole : word ≡ fence

-- the word stands for the instruction
abbrev pub Encodes : ℕ → Instr → Type 0
Encodes word (Lui rd upper) = IsUType word 0b0110111 rd upper
Encodes word (Auipc rd upper) = IsUType word 0b0010111 rd upper
Encodes word (Jal rd offset) = IsJType word 0b1101111 rd offset
Encodes word (Jalr rd rs1 offset) = IsIType word 0b1100111 0b000 rd rs1 offset
Encodes word (Branch op rs1 rs2 offset) = IsBType word 0b1100011 (branch_f3 op) rs1 rs2 offset
Encodes word (Load op rd rs1 offset) = IsIType word 0b0000011 (load_f3 op) rd rs1 offset
Encodes word (Store op rs1 rs2 offset) = IsSType word 0b0100011 (store_f3 op) rs1 rs2 offset
Encodes word (Imm op rd rs1 value) = IsIType word 0b0010011 (imm_f3 op) rd rs1 value
Encodes word (Shift op rd rs1 amount) = IsRType word 0b0010011 (shift_f3 op) (shift_f7 op) rd rs1 amount
Encodes word (Reg op rd rs1 rs2) = IsRType word 0b0110011 (reg_f3 op) (reg_f7 op) rd rs1 rs2
Encodes word (Lr rd rs1 aq rl) = IsAtomic word 0b00010 aq rl rd rs1 0
Encodes word (Sc rd rs1 rs2 aq rl) = IsAtomic word 0b00011 aq rl rd rs1 rs2
Encodes word (Amo op rd rs1 rs2 aq rl) = IsAtomic word (amo_funct5 op) aq rl rd rs1 rs2
Encodes word (Fence fence) = IsFence word fence
Encodes word Ecall = word ≡ 0x00000073
Encodes word Ebreak = word ≡ 0x00100073
