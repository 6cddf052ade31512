-- The mnemonics: those with which the texts of instructions begin, and those of eight pseudo-instructions.
use Rattle.std.specs.Prelude.{ℕ, Bool, true, false, List, [], ◌∷◌, ◌++◌, Option, codes, map}
use Rattle.std.specs.List.{flat_map}
use Rattle.slack_base.specs.declared.instructions.AmoOp.{AmoOp}
use Rattle.slack_base.specs.declared.instructions.AmoOp.TheVariants.{Amoswap, Amoadd, Amoxor, Amoand, Amoor, Amomin, Amomax, Amominu, Amomaxu}
use Rattle.slack_base.specs.declared.instructions.BranchOp.{BranchOp}
use Rattle.slack_base.specs.declared.instructions.BranchOp.TheVariants.{Beq, Bne, Blt, Bge, Bltu, Bgeu}
use Rattle.slack_base.specs.declared.instructions.ImmOp.{ImmOp}
use Rattle.slack_base.specs.declared.instructions.ImmOp.TheVariants.{Addi, Slti, Sltiu, Xori, Ori, Andi}
use Rattle.slack_base.specs.declared.instructions.LoadOp.{LoadOp}
use Rattle.slack_base.specs.declared.instructions.LoadOp.TheVariants.{Lb, Lh, Lw, Lbu, Lhu}
use Rattle.slack_base.specs.declared.instructions.RegOp.{RegOp}
use Rattle.slack_base.specs.declared.instructions.RegOp.TheVariants.{Add, Sll, Slt, Sltu, Xor, Srl, Or, And, Sub, Sra, Mul, Mulh, Mulhsu, Mulhu, Div, Divu, Rem, Remu}
use Rattle.slack_base.specs.declared.instructions.ShiftOp.{ShiftOp}
use Rattle.slack_base.specs.declared.instructions.ShiftOp.TheVariants.{Slli, Srli, Srai}
use Rattle.slack_base.specs.declared.instructions.StoreOp.{StoreOp}
use Rattle.slack_base.specs.declared.instructions.StoreOp.TheVariants.{Sb, Sh, Sw}
use Rattle.rv_decode.specs.Texts.{branch_name, load_name, store_name, imm_name, shift_name, reg_name, amo_name, ending}
use Rattle.rv_asm.specs.declared.operations.Operation.{Operation}
use Rattle.rv_asm.specs.declared.operations.Operation.TheVariants as op
use Rattle.rv_asm.specs.Tables.{entry_in}

-- what an operation is called
abbrev pub mnemonic : Operation → List ℕ
mnemonic op.Lui = codes "lui"
mnemonic op.Auipc = codes "auipc"
mnemonic op.Jal = codes "jal"
mnemonic op.Jalr = codes "jalr"
mnemonic (op.Branch o) = branch_name o
mnemonic (op.Load o) = load_name o
mnemonic (op.Store o) = store_name o
mnemonic (op.Imm o) = imm_name o
mnemonic (op.Shift o) = shift_name o
mnemonic (op.Reg o) = reg_name o
mnemonic (op.Lr aq rl) = codes "lr.w" ++ ending aq rl
mnemonic (op.Sc aq rl) = codes "sc.w" ++ ending aq rl
mnemonic (op.Amo o aq rl) = amo_name o ++ ending aq rl
mnemonic op.Fence = codes "fence"
mnemonic op.Ecall = codes "ecall"
mnemonic op.Ebreak = codes "ebreak"
mnemonic op.Nop = codes "nop"
mnemonic op.Mv = codes "mv"
mnemonic op.Not = codes "not"
mnemonic op.Neg = codes "neg"
mnemonic op.J = codes "j"
mnemonic op.Ret = codes "ret"
mnemonic (op.BranchZero o) = branch_name o ++ codes "z"

abbrev pub branch_ops : List BranchOp
branch_ops = Beq ∷ Bne ∷ Blt ∷ Bge ∷ Bltu ∷ Bgeu ∷ []

abbrev pub load_ops : List LoadOp
load_ops = Lb ∷ Lh ∷ Lw ∷ Lbu ∷ Lhu ∷ []

abbrev pub store_ops : List StoreOp
store_ops = Sb ∷ Sh ∷ Sw ∷ []

abbrev pub imm_ops : List ImmOp
imm_ops = Addi ∷ Slti ∷ Sltiu ∷ Xori ∷ Ori ∷ Andi ∷ []

abbrev pub shift_ops : List ShiftOp
shift_ops = Slli ∷ Srli ∷ Srai ∷ []

abbrev pub reg_ops : List RegOp
reg_ops = Add ∷ Sll ∷ Slt ∷ Sltu ∷ Xor ∷ Srl ∷ Or ∷ And ∷ Sub ∷ Sra ∷ Mul ∷ Mulh ∷ Mulhsu ∷ Mulhu ∷ Div ∷ Divu ∷ Rem ∷ Remu ∷ []

abbrev pub amo_ops : List AmoOp
amo_ops = Amoswap ∷ Amoadd ∷ Amoxor ∷ Amoand ∷ Amoor ∷ Amomin ∷ Amomax ∷ Amominu ∷ Amomaxu ∷ []

-- the atomic operations with these flags
abbrev pub atomic : Bool × Bool → List Operation
atomic flags = op.Lr flags.0 flags.1 ∷ op.Sc flags.0 flags.1 ∷ map (λ o. op.Amo o flags.0 flags.1) amo_ops

-- the operations of instructions
abbrev pub instructions : List Operation
instructions =
    (op.Lui ∷ op.Auipc ∷ op.Jal ∷ op.Jalr ∷ op.Fence ∷ op.Ecall ∷ op.Ebreak ∷ [])
    ++ (map op.Branch branch_ops ++ (map op.Load load_ops ++ (map op.Store store_ops
    ++ (map op.Imm imm_ops ++ (map op.Shift shift_ops ++ (map op.Reg reg_ops
    ++ flat_map atomic ((false, false) ∷ (true, false) ∷ (false, true) ∷ (true, true) ∷ [])))))))

-- those of pseudo-instructions
abbrev pub pseudo_instructions : List Operation
pseudo_instructions = op.Nop ∷ op.Mv ∷ op.Not ∷ op.Neg ∷ op.J ∷ op.Ret ∷ op.BranchZero Beq ∷ op.BranchZero Bne ∷ []

-- each mnemonic, with what it stands for
unfoldable pub mnemonics : List (List ℕ × Operation)
mnemonics = map {B = List ℕ × Operation} (λ o. (mnemonic o, o)) (instructions ++ pseudo_instructions)

-- what a mnemonic stands for
unfoldable pub operation_of : List ℕ → Option Operation
operation_of name = entry_in mnemonics name
