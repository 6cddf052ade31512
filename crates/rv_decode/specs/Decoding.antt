-- What a word stands for, as a function, by choices on its fields. That it is what the table of Encodes.antt says is
-- proved as a law, `the_table`.
use Rattle.std.specs.Prelude.{ℕ, List, [], ◌∷◌, Option, Some, None, ◌==◌, ◌&&◌, if◌then◌else◌}
use Rattle.std.specs.List.{find}
use Rattle.std.specs.Option.{option_map, option_or}
use Rattle.slack_base.specs.declared.instructions.Instr.{Instr}
use Rattle.slack_base.specs.declared.instructions.Instr.TheVariants.{Lui, Auipc, Jal, Jalr, Branch, Load, Store, Imm, Shift, Reg, Lr, Sc, Amo, Fence, Ecall, Ebreak}
use Rattle.slack_base.specs.declared.instructions.BranchOp.{BranchOp}
use Rattle.slack_base.specs.declared.instructions.BranchOp.TheVariants.{Beq, Bne, Blt, Bge, Bltu, Bgeu}
use Rattle.slack_base.specs.declared.instructions.LoadOp.{LoadOp}
use Rattle.slack_base.specs.declared.instructions.LoadOp.TheVariants.{Lb, Lh, Lw, Lbu, Lhu}
use Rattle.slack_base.specs.declared.instructions.StoreOp.{StoreOp}
use Rattle.slack_base.specs.declared.instructions.StoreOp.TheVariants.{Sb, Sh, Sw}
use Rattle.slack_base.specs.declared.instructions.ImmOp.{ImmOp}
use Rattle.slack_base.specs.declared.instructions.ImmOp.TheVariants.{Addi, Slti, Sltiu, Xori, Ori, Andi}
use Rattle.slack_base.specs.declared.instructions.ShiftOp.{ShiftOp}
use Rattle.slack_base.specs.declared.instructions.ShiftOp.TheVariants.{Slli, Srli, Srai}
use Rattle.slack_base.specs.declared.instructions.RegOp.{RegOp}
use Rattle.slack_base.specs.declared.instructions.RegOp.TheVariants.{Add, Sll, Slt, Sltu, Xor, Srl, Or, And, Sub, Sra, Mul, Mulh, Mulhsu, Mulhu, Div, Divu, Rem, Remu}
use Rattle.slack_base.specs.declared.instructions.AmoOp.{AmoOp}
use Rattle.slack_base.specs.declared.instructions.AmoOp.TheVariants.{Amoswap, Amoadd, Amoxor, Amoand, Amoor, Amomin, Amomax, Amominu, Amomaxu}
use Rattle.rv_decode.specs.Fields.{opcode_of, rd_of, f3_of, rs1_of, rs2_of, f7_of, funct5_of, aq_of, rl_of, immediate_i, immediate_s, immediate_b, immediate_j, upper_of}
use Rattle.rv_decode.specs.Operations.{branch_f3, load_f3, store_f3, imm_f3, shift_f3, shift_f7, reg_f3, reg_f7, amo_funct5}

-- the operations of each kind
abbrev pub branch_ops : List BranchOp
branch_ops = Beq ∷ Bne ∷ Blt ∷ Bge ∷ Bltu ∷ Bgeu ∷ []

abbrev pub load_ops : List LoadOp
load_ops = Lb ∷ Lh ∷ Lw ∷ Lbu ∷ Lhu ∷ []

abbrev pub store_ops : List StoreOp
store_ops = Sb ∷ Sh ∷ Sw ∷ []

abbrev pub imm_ops : List ImmOp
imm_ops = Addi ∷ Slti ∷ Sltiu ∷ Xori ∷ Ori ∷ Andi ∷ []

abbrev pub shift_ops : List ShiftOp
shift_ops = Slli ∷ Srli ∷ Srai ∷ []

abbrev pub reg_ops : List RegOp
reg_ops = Add ∷ Sll ∷ Slt ∷ Sltu ∷ Xor ∷ Srl ∷ Or ∷ And ∷ Sub ∷ Sra ∷ Mul ∷ Mulh ∷ Mulhsu ∷ Mulhu ∷ Div ∷ Divu ∷ Rem ∷ Remu ∷ []

abbrev pub amo_ops : List AmoOp
amo_ops = Amoswap ∷ Amoadd ∷ Amoxor ∷ Amoand ∷ Amoor ∷ Amomin ∷ Amomax ∷ Amominu ∷ Amomaxu ∷ []

-- the operation with these codes, if there is one
abbrev pub branch_op_of : ℕ → Option BranchOp
branch_op_of f3 = find (λ op. branch_f3 op == f3) branch_ops

abbrev pub load_op_of : ℕ → Option LoadOp
load_op_of f3 = find (λ op. load_f3 op == f3) load_ops

abbrev pub store_op_of : ℕ → Option StoreOp
store_op_of f3 = find (λ op. store_f3 op == f3) store_ops

abbrev pub imm_op_of : ℕ → Option ImmOp
imm_op_of f3 = find (λ op. imm_f3 op == f3) imm_ops

abbrev pub shift_op_of : ℕ → ℕ → Option ShiftOp
shift_op_of f7 f3 = find (λ op. (shift_f7 op == f7) && (shift_f3 op == f3)) shift_ops

abbrev pub reg_op_of : ℕ → ℕ → Option RegOp
reg_op_of f7 f3 = find (λ op. (reg_f7 op == f7) && (reg_f3 op == f3)) reg_ops

abbrev pub amo_op_of : ℕ → Option AmoOp
amo_op_of funct5 = find (λ op. amo_funct5 op == funct5) amo_ops

-- what a word of each opcode stands for
abbrev pub jalr_of : ℕ → Option Instr
jalr_of word = if f3_of word == 0 then Some (Jalr (rd_of word) (rs1_of word) (immediate_i word)) else None

abbrev pub branch_of : ℕ → Option Instr
branch_of word = option_map (λ op. Branch op (rs1_of word) (rs2_of word) (immediate_b word)) (branch_op_of (f3_of word))

abbrev pub load_of : ℕ → Option Instr
load_of word = option_map (λ op. Load op (rd_of word) (rs1_of word) (immediate_i word)) (load_op_of (f3_of word))

abbrev pub store_of : ℕ → Option Instr
store_of word = option_map (λ op. Store op (rs1_of word) (rs2_of word) (immediate_s word)) (store_op_of (f3_of word))

abbrev pub imm_of : ℕ → Option Instr
imm_of word = option_map (λ op. Imm op (rd_of word) (rs1_of word) (immediate_i word)) (imm_op_of (f3_of word))

abbrev pub shift_of : ℕ → Option Instr
shift_of word =
    option_map (λ op. Shift op (rd_of word) (rs1_of word) (rs2_of word)) (shift_op_of (f7_of word) (f3_of word))

abbrev pub reg_of : ℕ → Option Instr
reg_of word = option_map (λ op. Reg op (rd_of word) (rs1_of word) (rs2_of word)) (reg_op_of (f7_of word) (f3_of word))

abbrev pub fence_of : ℕ → Option Instr
fence_of word = if f3_of word == 0 then Some (Fence word) else None

abbrev pub lr_of : ℕ → Option Instr
lr_of word = if rs2_of word == 0 then Some (Lr (rd_of word) (rs1_of word) (aq_of word == 1) (rl_of word == 1)) else None

abbrev pub sc_of : ℕ → Option Instr
sc_of word = Some (Sc (rd_of word) (rs1_of word) (rs2_of word) (aq_of word == 1) (rl_of word == 1))

abbrev pub amo_of : ℕ → Option Instr
amo_of word =
    option_map (λ op. Amo op (rd_of word) (rs1_of word) (rs2_of word) (aq_of word == 1) (rl_of word == 1))
    (amo_op_of (funct5_of word))

abbrev pub atomic_by : ℕ → ℕ → Option Instr
atomic_by funct5 word = if funct5 == 2 then lr_of word else (if funct5 == 3 then sc_of word else amo_of word)

abbrev pub atomic_of : ℕ → Option Instr
atomic_of word = if f3_of word == 2 then atomic_by (funct5_of word) word else None

abbrev pub system_of : ℕ → Option Instr
system_of word = if word == 0x00000073 then Some Ecall else (if word == 0x00100073 then Some Ebreak else None)

unfoldable pub instr_by : ℕ → ℕ → Option Instr
instr_by opcode word =
    if opcode == 0b0110111 then Some (Lui (rd_of word) (upper_of word))
    else (if opcode == 0b0010111 then Some (Auipc (rd_of word) (upper_of word))
    else (if opcode == 0b1101111 then Some (Jal (rd_of word) (immediate_j word))
    else (if opcode == 0b1100111 then jalr_of word
    else (if opcode == 0b1100011 then branch_of word
    else (if opcode == 0b0000011 then load_of word
    else (if opcode == 0b0100011 then store_of word
    else (if opcode == 0b0010011 then option_or (imm_of word) (shift_of word)
    else (if opcode == 0b0110011 then reg_of word
    else (if opcode == 0b0001111 then fence_of word
    else (if opcode == 0b1110011 then system_of word
    else (if opcode == 0b0101111 then atomic_of word
    else None)))))))))))

abbrev pub instr_of : ℕ → Option Instr
instr_of word = instr_by (opcode_of word) word
