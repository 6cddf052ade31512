-- The codes that select an operation among those of one opcode, as the tables of the RISC-V Unprivileged ISA
-- (20191213, chapter 24) list them.
use Rattle.std.specs.Prelude.{ℕ}
use Rattle.slack_base.specs.declared.instructions.BranchOp.{BranchOp}
use Rattle.slack_base.specs.declared.instructions.BranchOp.TheVariants.{Beq, Bne, Blt, Bge, Bltu, Bgeu}
use Rattle.slack_base.specs.declared.instructions.LoadOp.{LoadOp}
use Rattle.slack_base.specs.declared.instructions.LoadOp.TheVariants.{Lb, Lh, Lw, Lbu, Lhu}
use Rattle.slack_base.specs.declared.instructions.StoreOp.{StoreOp}
use Rattle.slack_base.specs.declared.instructions.StoreOp.TheVariants.{Sb, Sh, Sw}
use Rattle.slack_base.specs.declared.instructions.ImmOp.{ImmOp}
use Rattle.slack_base.specs.declared.instructions.ImmOp.TheVariants.{Addi, Slti, Sltiu, Xori, Ori, Andi}
use Rattle.slack_base.specs.declared.instructions.ShiftOp.{ShiftOp}
use Rattle.slack_base.specs.declared.instructions.ShiftOp.TheVariants.{Slli, Srli, Srai}
use Rattle.slack_base.specs.declared.instructions.RegOp.{RegOp}
use Rattle.slack_base.specs.declared.instructions.RegOp.TheVariants.{Add, Sll, Slt, Sltu, Xor, Srl, Or, And, Sub, Sra, Mul, Mulh, Mulhsu, Mulhu, Div, Divu, Rem, Remu}
use Rattle.slack_base.specs.declared.instructions.AmoOp.{AmoOp}
use Rattle.slack_base.specs.declared.instructions.AmoOp.TheVariants.{Amoswap, Amoadd, Amoxor, Amoand, Amoor, Amomin, Amomax, Amominu, Amomaxu}

abbrev pub branch_f3 : BranchOp → ℕ
branch_f3 Beq = 0b000
branch_f3 Bne = 0b001
branch_f3 Blt = 0b100
branch_f3 Bge = 0b101
branch_f3 Bltu = 0b110
branch_f3 Bgeu = 0b111

abbrev pub load_f3 : LoadOp → ℕ
load_f3 Lb = 0b000
load_f3 Lh = 0b001
load_f3 Lw = 0b010
load_f3 Lbu = 0b100
load_f3 Lhu = 0b101

abbrev pub store_f3 : StoreOp → ℕ
store_f3 Sb = 0b000
store_f3 Sh = 0b001
store_f3 Sw = 0b010

abbrev pub imm_f3 : ImmOp → ℕ
imm_f3 Addi = 0b000
imm_f3 Slti = 0b010
imm_f3 Sltiu = 0b011
imm_f3 Xori = 0b100
imm_f3 Ori = 0b110
imm_f3 Andi = 0b111

abbrev pub shift_f3 : ShiftOp → ℕ
shift_f3 Slli = 0b001
shift_f3 Srli = 0b101
shift_f3 Srai = 0b101

abbrev pub shift_f7 : ShiftOp → ℕ
shift_f7 Slli = 0b0000000
shift_f7 Srli = 0b0000000
shift_f7 Srai = 0b0100000

abbrev pub reg_f3 : RegOp → ℕ
reg_f3 Add = 0b000
reg_f3 Sll = 0b001
reg_f3 Slt = 0b010
reg_f3 Sltu = 0b011
reg_f3 Xor = 0b100
reg_f3 Srl = 0b101
reg_f3 Or = 0b110
reg_f3 And = 0b111
reg_f3 Sub = 0b000
reg_f3 Sra = 0b101
reg_f3 Mul = 0b000
reg_f3 Mulh = 0b001
reg_f3 Mulhsu = 0b010
reg_f3 Mulhu = 0b011
reg_f3 Div = 0b100
reg_f3 Divu = 0b101
reg_f3 Rem = 0b110
reg_f3 Remu = 0b111

abbrev pub reg_f7 : RegOp → ℕ
reg_f7 Add = 0b0000000
reg_f7 Sll = 0b0000000
reg_f7 Slt = 0b0000000
reg_f7 Sltu = 0b0000000
reg_f7 Xor = 0b0000000
reg_f7 Srl = 0b0000000
reg_f7 Or = 0b0000000
reg_f7 And = 0b0000000
reg_f7 Sub = 0b0100000
reg_f7 Sra = 0b0100000
reg_f7 Mul = 0b0000001
reg_f7 Mulh = 0b0000001
reg_f7 Mulhsu = 0b0000001
reg_f7 Mulhu = 0b0000001
reg_f7 Div = 0b0000001
reg_f7 Divu = 0b0000001
reg_f7 Rem = 0b0000001
reg_f7 Remu = 0b0000001

abbrev pub amo_funct5 : AmoOp → ℕ
amo_funct5 Amoswap = 0b00001
amo_funct5 Amoadd = 0b00000
amo_funct5 Amoxor = 0b00100
amo_funct5 Amoand = 0b01100
amo_funct5 Amoor = 0b01000
amo_funct5 Amomin = 0b10000
amo_funct5 Amomax = 0b10100
amo_funct5 Amominu = 0b11000
amo_funct5 Amomaxu = 0b11100
