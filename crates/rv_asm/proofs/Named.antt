-- The mnemonic of each instruction's text is that of its operation.
use Rattle.std.proofs.Common.{Bool, true, false, ◌++◌, codes, refl}
use Rattle.slack_base.specs.declared.instructions.AmoOp.{AmoOp}
use Rattle.slack_base.specs.declared.instructions.AmoOp.TheVariants.{Amoswap, Amoadd, Amoxor, Amoand, Amoor, Amomin, Amomax, Amominu, Amomaxu}
use Rattle.slack_base.specs.declared.instructions.BranchOp.{BranchOp}
use Rattle.slack_base.specs.declared.instructions.BranchOp.TheVariants.{Beq, Bne, Blt, Bge, Bltu, Bgeu}
use Rattle.slack_base.specs.declared.instructions.ImmOp.{ImmOp}
use Rattle.slack_base.specs.declared.instructions.ImmOp.TheVariants.{Addi, Slti, Sltiu, Xori, Ori, Andi}
use Rattle.slack_base.specs.declared.instructions.LoadOp.{LoadOp}
use Rattle.slack_base.specs.declared.instructions.LoadOp.TheVariants.{Lb, Lh, Lw, Lbu, Lhu}
use Rattle.slack_base.specs.declared.instructions.RegOp.{RegOp}
use Rattle.slack_base.specs.declared.instructions.RegOp.TheVariants.{Add, Sll, Slt, Sltu, Xor, Srl, Or, And, Sub, Sra, Mul, Mulh, Mulhsu, Mulhu, Div, Divu, Rem, Remu}
use Rattle.slack_base.specs.declared.instructions.ShiftOp.{ShiftOp}
use Rattle.slack_base.specs.declared.instructions.ShiftOp.TheVariants.{Slli, Srli, Srai}
use Rattle.slack_base.specs.declared.instructions.StoreOp.{StoreOp}
use Rattle.slack_base.specs.declared.instructions.StoreOp.TheVariants.{Sb, Sh, Sw}
use Rattle.rv_decode.specs.Texts.{branch_name, load_name, store_name, imm_name, shift_name, reg_name, amo_name, ending}
use Rattle.rv_asm.specs.declared.operations.Operation.TheVariants as op
use Rattle.rv_asm.specs.Mnemonics.{mnemonics, operation_of}
use Rattle.rv_asm.proofs.OneLine.{IsNameOf}

pub lui_named : IsNameOf (codes "lui") op.Lui
unfolding operation_of mnemonics
lui_named = record { known = refl; fits = refl }

pub auipc_named : IsNameOf (codes "auipc") op.Auipc
unfolding operation_of mnemonics
auipc_named = record { known = refl; fits = refl }

pub jal_named : IsNameOf (codes "jal") op.Jal
unfolding operation_of mnemonics
jal_named = record { known = refl; fits = refl }

pub jalr_named : IsNameOf (codes "jalr") op.Jalr
unfolding operation_of mnemonics
jalr_named = record { known = refl; fits = refl }

pub fence_named : IsNameOf (codes "fence") op.Fence
unfolding operation_of mnemonics
fence_named = record { known = refl; fits = refl }

pub ecall_named : IsNameOf (codes "ecall") op.Ecall
unfolding operation_of mnemonics
ecall_named = record { known = refl; fits = refl }

pub ebreak_named : IsNameOf (codes "ebreak") op.Ebreak
unfolding operation_of mnemonics
ebreak_named = record { known = refl; fits = refl }

pub branch_named : (o : BranchOp) → IsNameOf (branch_name o) (op.Branch o)
unfolding operation_of mnemonics
branch_named Beq = record { known = refl; fits = refl }
branch_named Bne = record { known = refl; fits = refl }
branch_named Blt = record { known = refl; fits = refl }
branch_named Bge = record { known = refl; fits = refl }
branch_named Bltu = record { known = refl; fits = refl }
branch_named Bgeu = record { known = refl; fits = refl }

pub load_named : (o : LoadOp) → IsNameOf (load_name o) (op.Load o)
unfolding operation_of mnemonics
load_named Lb = record { known = refl; fits = refl }
load_named Lh = record { known = refl; fits = refl }
load_named Lw = record { known = refl; fits = refl }
load_named Lbu = record { known = refl; fits = refl }
load_named Lhu = record { known = refl; fits = refl }

pub store_named : (o : StoreOp) → IsNameOf (store_name o) (op.Store o)
unfolding operation_of mnemonics
store_named Sb = record { known = refl; fits = refl }
store_named Sh = record { known = refl; fits = refl }
store_named Sw = record { known = refl; fits = refl }

pub imm_named : (o : ImmOp) → IsNameOf (imm_name o) (op.Imm o)
unfolding operation_of mnemonics
imm_named Addi = record { known = refl; fits = refl }
imm_named Slti = record { known = refl; fits = refl }
imm_named Sltiu = record { known = refl; fits = refl }
imm_named Xori = record { known = refl; fits = refl }
imm_named Ori = record { known = refl; fits = refl }
imm_named Andi = record { known = refl; fits = refl }

pub shift_named : (o : ShiftOp) → IsNameOf (shift_name o) (op.Shift o)
unfolding operation_of mnemonics
shift_named Slli = record { known = refl; fits = refl }
shift_named Srli = record { known = refl; fits = refl }
shift_named Srai = record { known = refl; fits = refl }

pub reg_named : (o : RegOp) → IsNameOf (reg_name o) (op.Reg o)
unfolding operation_of mnemonics
reg_named Add = record { known = refl; fits = refl }
reg_named Sll = record { known = refl; fits = refl }
reg_named Slt = record { known = refl; fits = refl }
reg_named Sltu = record { known = refl; fits = refl }
reg_named Xor = record { known = refl; fits = refl }
reg_named Srl = record { known = refl; fits = refl }
reg_named Or = record { known = refl; fits = refl }
reg_named And = record { known = refl; fits = refl }
reg_named Sub = record { known = refl; fits = refl }
reg_named Sra = record { known = refl; fits = refl }
reg_named Mul = record { known = refl; fits = refl }
reg_named Mulh = record { known = refl; fits = refl }
reg_named Mulhsu = record { known = refl; fits = refl }
reg_named Mulhu = record { known = refl; fits = refl }
reg_named Div = record { known = refl; fits = refl }
reg_named Divu = record { known = refl; fits = refl }
reg_named Rem = record { known = refl; fits = refl }
reg_named Remu = record { known = refl; fits = refl }

pub lr_named : (aq rl : Bool) → IsNameOf (codes "lr.w" ++ ending aq rl) (op.Lr aq rl)
unfolding operation_of mnemonics
lr_named false false = record { known = refl; fits = refl }
lr_named true false = record { known = refl; fits = refl }
lr_named false true = record { known = refl; fits = refl }
lr_named true true = record { known = refl; fits = refl }

pub sc_named : (aq rl : Bool) → IsNameOf (codes "sc.w" ++ ending aq rl) (op.Sc aq rl)
unfolding operation_of mnemonics
sc_named false false = record { known = refl; fits = refl }
sc_named true false = record { known = refl; fits = refl }
sc_named false true = record { known = refl; fits = refl }
sc_named true true = record { known = refl; fits = refl }

pub amo_named : (o : AmoOp) (aq rl : Bool) → IsNameOf (amo_name o ++ ending aq rl) (op.Amo o aq rl)
unfolding operation_of mnemonics
amo_named Amoswap false false = record { known = refl; fits = refl }
amo_named Amoswap true false = record { known = refl; fits = refl }
amo_named Amoswap false true = record { known = refl; fits = refl }
amo_named Amoswap true true = record { known = refl; fits = refl }
amo_named Amoadd false false = record { known = refl; fits = refl }
amo_named Amoadd true false = record { known = refl; fits = refl }
amo_named Amoadd false true = record { known = refl; fits = refl }
amo_named Amoadd true true = record { known = refl; fits = refl }
amo_named Amoxor false false = record { known = refl; fits = refl }
amo_named Amoxor true false = record { known = refl; fits = refl }
amo_named Amoxor false true = record { known = refl; fits = refl }
amo_named Amoxor true true = record { known = refl; fits = refl }
amo_named Amoand false false = record { known = refl; fits = refl }
amo_named Amoand true false = record { known = refl; fits = refl }
amo_named Amoand false true = record { known = refl; fits = refl }
amo_named Amoand true true = record { known = refl; fits = refl }
amo_named Amoor false false = record { known = refl; fits = refl }
amo_named Amoor true false = record { known = refl; fits = refl }
amo_named Amoor false true = record { known = refl; fits = refl }
amo_named Amoor true true = record { known = refl; fits = refl }
amo_named Amomin false false = record { known = refl; fits = refl }
amo_named Amomin true false = record { known = refl; fits = refl }
amo_named Amomin false true = record { known = refl; fits = refl }
amo_named Amomin true true = record { known = refl; fits = refl }
amo_named Amomax false false = record { known = refl; fits = refl }
amo_named Amomax true false = record { known = refl; fits = refl }
amo_named Amomax false true = record { known = refl; fits = refl }
amo_named Amomax true true = record { known = refl; fits = refl }
amo_named Amominu false false = record { known = refl; fits = refl }
amo_named Amominu true false = record { known = refl; fits = refl }
amo_named Amominu false true = record { known = refl; fits = refl }
amo_named Amominu true true = record { known = refl; fits = refl }
amo_named Amomaxu false false = record { known = refl; fits = refl }
amo_named Amomaxu true false = record { known = refl; fits = refl }
amo_named Amomaxu false true = record { known = refl; fits = refl }
amo_named Amomaxu true true = record { known = refl; fits = refl }
