-- The text of an instruction, as an assembler of the RISC-V manual's language reads it.
use Rattle.std.specs.Prelude.{ℕ, Bool, true, false, List, [], ◌∷◌, ◌++◌, codes, decimal}
use Rattle.std.specs.Fmt.{signed_decimal}
use Rattle.slack_base.specs.declared.instructions.Instr.{Instr}
use Rattle.slack_base.specs.declared.instructions.Instr.TheVariants.{Lui, Auipc, Jal, Jalr, Branch, Load, Store, Imm, Shift, Reg, Lr, Sc, Amo, Fence, Ecall, Ebreak}
use Rattle.slack_base.specs.declared.instructions.BranchOp.{BranchOp}
use Rattle.slack_base.specs.declared.instructions.BranchOp.TheVariants.{Beq, Bne, Blt, Bge, Bltu, Bgeu}
use Rattle.slack_base.specs.declared.instructions.LoadOp.{LoadOp}
use Rattle.slack_base.specs.declared.instructions.LoadOp.TheVariants.{Lb, Lh, Lw, Lbu, Lhu}
use Rattle.slack_base.specs.declared.instructions.StoreOp.{StoreOp}
use Rattle.slack_base.specs.declared.instructions.StoreOp.TheVariants.{Sb, Sh, Sw}
use Rattle.slack_base.specs.declared.instructions.ImmOp.{ImmOp}
use Rattle.slack_base.specs.declared.instructions.ImmOp.TheVariants.{Addi, Slti, Sltiu, Xori, Ori, Andi}
use Rattle.slack_base.specs.declared.instructions.ShiftOp.{ShiftOp}
use Rattle.slack_base.specs.declared.instructions.ShiftOp.TheVariants.{Slli, Srli, Srai}
use Rattle.slack_base.specs.declared.instructions.RegOp.{RegOp}
use Rattle.slack_base.specs.declared.instructions.RegOp.TheVariants.{Add, Sll, Slt, Sltu, Xor, Srl, Or, And, Sub, Sra, Mul, Mulh, Mulhsu, Mulhu, Div, Divu, Rem, Remu}
use Rattle.slack_base.specs.declared.instructions.AmoOp.{AmoOp}
use Rattle.slack_base.specs.declared.instructions.AmoOp.TheVariants.{Amoswap, Amoadd, Amoxor, Amoand, Amoor, Amomin, Amomax, Amominu, Amomaxu}

abbrev pub branch_name : BranchOp → List ℕ
branch_name Beq = codes "beq"
branch_name Bne = codes "bne"
branch_name Blt = codes "blt"
branch_name Bge = codes "bge"
branch_name Bltu = codes "bltu"
branch_name Bgeu = codes "bgeu"

abbrev pub load_name : LoadOp → List ℕ
load_name Lb = codes "lb"
load_name Lh = codes "lh"
load_name Lw = codes "lw"
load_name Lbu = codes "lbu"
load_name Lhu = codes "lhu"

abbrev pub store_name : StoreOp → List ℕ
store_name Sb = codes "sb"
store_name Sh = codes "sh"
store_name Sw = codes "sw"

abbrev pub imm_name : ImmOp → List ℕ
imm_name Addi = codes "addi"
imm_name Slti = codes "slti"
imm_name Sltiu = codes "sltiu"
imm_name Xori = codes "xori"
imm_name Ori = codes "ori"
imm_name Andi = codes "andi"

abbrev pub shift_name : ShiftOp → List ℕ
shift_name Slli = codes "slli"
shift_name Srli = codes "srli"
shift_name Srai = codes "srai"

abbrev pub reg_name : RegOp → List ℕ
reg_name Add = codes "add"
reg_name Sll = codes "sll"
reg_name Slt = codes "slt"
reg_name Sltu = codes "sltu"
reg_name Xor = codes "xor"
reg_name Srl = codes "srl"
reg_name Or = codes "or"
reg_name And = codes "and"
reg_name Sub = codes "sub"
reg_name Sra = codes "sra"
reg_name Mul = codes "mul"
reg_name Mulh = codes "mulh"
reg_name Mulhsu = codes "mulhsu"
reg_name Mulhu = codes "mulhu"
reg_name Div = codes "div"
reg_name Divu = codes "divu"
reg_name Rem = codes "rem"
reg_name Remu = codes "remu"

abbrev pub amo_name : AmoOp → List ℕ
amo_name Amoswap = codes "amoswap.w"
amo_name Amoadd = codes "amoadd.w"
amo_name Amoxor = codes "amoxor.w"
amo_name Amoand = codes "amoand.w"
amo_name Amoor = codes "amoor.w"
amo_name Amomin = codes "amomin.w"
amo_name Amomax = codes "amomax.w"
amo_name Amominu = codes "amominu.w"
amo_name Amomaxu = codes "amomaxu.w"

-- what a mnemonic ends in, by the flags aq and rl
abbrev pub ending : Bool → Bool → List ℕ
ending false false = codes ""
ending true false = codes ".aq"
ending false true = codes ".rl"
ending true true = codes ".aqrl"

-- a register
abbrev pub register : ℕ → List ℕ
register r = codes "x" ++ decimal r

-- the memory at a register's address
abbrev pub behind : ℕ → List ℕ
behind r = codes "(" ++ (register r ++ codes ")")

-- operands, divided by a comma and a blank
abbrev pub divided : List (List ℕ) → List ℕ
divided [] = []
divided (x ∷ []) = x
divided (x ∷ y ∷ xs) = x ++ (codes ", " ++ divided (y ∷ xs))

-- a mnemonic and its operands
abbrev pub spelled : List ℕ → List (List ℕ) → List ℕ
spelled mnemonic operands = mnemonic ++ (codes " " ++ divided operands)

abbrev pub text : Instr → List ℕ
text (Lui rd upper) = spelled (codes "lui") (register rd ∷ decimal upper ∷ [])
text (Auipc rd upper) = spelled (codes "auipc") (register rd ∷ decimal upper ∷ [])
text (Jal rd offset) = spelled (codes "jal") (register rd ∷ signed_decimal offset ∷ [])
text (Jalr rd rs1 offset) = spelled (codes "jalr") (register rd ∷ (signed_decimal offset ++ behind rs1) ∷ [])
text (Branch op rs1 rs2 offset) = spelled (branch_name op) (register rs1 ∷ register rs2 ∷ signed_decimal offset ∷ [])
text (Load op rd rs1 offset) = spelled (load_name op) (register rd ∷ (signed_decimal offset ++ behind rs1) ∷ [])
text (Store op rs1 rs2 offset) = spelled (store_name op) (register rs2 ∷ (signed_decimal offset ++ behind rs1) ∷ [])
text (Imm op rd rs1 value) = spelled (imm_name op) (register rd ∷ register rs1 ∷ signed_decimal value ∷ [])
text (Shift op rd rs1 amount) = spelled (shift_name op) (register rd ∷ register rs1 ∷ decimal amount ∷ [])
text (Reg op rd rs1 rs2) = spelled (reg_name op) (register rd ∷ register rs1 ∷ register rs2 ∷ [])
text (Lr rd rs1 aq rl) = spelled (codes "lr.w" ++ ending aq rl) (register rd ∷ behind rs1 ∷ [])
text (Sc rd rs1 rs2 aq rl) = spelled (codes "sc.w" ++ ending aq rl) (register rd ∷ register rs2 ∷ behind rs1 ∷ [])
text (Amo op rd rs1 rs2 aq rl) = spelled (amo_name op ++ ending aq rl) (register rd ∷ register rs2 ∷ behind rs1 ∷ [])
text (Fence word) = codes "fence"
text Ecall = codes "ecall"
text Ebreak = codes "ebreak"
