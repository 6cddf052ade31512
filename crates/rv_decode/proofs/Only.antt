-- The decoder answers each instruction that the table has.
use Rattle.std.proofs.Common.{◌≡◌, ℕ, Bool, true, false, cond, eqb, Some, None, refl, ap, ◌∙◌}
use Rattle.std.specs.Option.{option_map, option_or}
use Rattle.std.proofs.lemmas.Bool.{eq-eqb, cond-true}
use Rattle.slack_base.specs.declared.instructions.Instr.{Instr}
use Rattle.slack_base.specs.declared.instructions.Instr.TheVariants.{Lui, Auipc, Jal, Jalr, Branch, Load, Store, Imm, Shift, Reg, Lr, Sc, Amo, Fence, Ecall, Ebreak}
use Rattle.slack_base.specs.declared.instructions.BranchOp.{BranchOp}
use Rattle.slack_base.specs.declared.instructions.BranchOp.TheVariants.{Beq, Bne, Blt, Bge, Bltu, Bgeu}
use Rattle.slack_base.specs.declared.instructions.LoadOp.{LoadOp}
use Rattle.slack_base.specs.declared.instructions.LoadOp.TheVariants.{Lb, Lh, Lw, Lbu, Lhu}
use Rattle.slack_base.specs.declared.instructions.StoreOp.{StoreOp}
use Rattle.slack_base.specs.declared.instructions.StoreOp.TheVariants.{Sb, Sh, Sw}
use Rattle.slack_base.specs.declared.instructions.ImmOp.{ImmOp}
use Rattle.slack_base.specs.declared.instructions.ImmOp.TheVariants.{Addi, Slti, Sltiu, Xori, Ori, Andi}
use Rattle.slack_base.specs.declared.instructions.ShiftOp.{ShiftOp}
use Rattle.slack_base.specs.declared.instructions.ShiftOp.TheVariants.{Slli, Srli, Srai}
use Rattle.slack_base.specs.declared.instructions.RegOp.{RegOp}
use Rattle.slack_base.specs.declared.instructions.RegOp.TheVariants.{Add, Sll, Slt, Sltu, Xor, Srl, Or, And, Sub, Sra, Mul, Mulh, Mulhsu, Mulhu, Div, Divu, Rem, Remu}
use Rattle.slack_base.specs.declared.instructions.AmoOp.{AmoOp}
use Rattle.slack_base.specs.declared.instructions.AmoOp.TheVariants.{Amoswap, Amoadd, Amoxor, Amoand, Amoor, Amomin, Amomax, Amominu, Amomaxu}
use Rattle.rv_decode.specs.Fields.{opcode_of, rd_of, f3_of, rs1_of, rs2_of, f7_of, funct5_of, aq_of, rl_of, bit_of, immediate_i, immediate_s, immediate_b}
use Rattle.rv_decode.specs.Operations.{branch_f3, load_f3, store_f3, imm_f3, shift_f3, shift_f7, reg_f3, reg_f7, amo_funct5}
use Rattle.rv_decode.specs.Decoding.{branch_op_of, load_op_of, store_op_of, imm_op_of, shift_op_of, reg_op_of, amo_op_of, branch_of, load_of, store_of, imm_of, shift_of, reg_of, amo_of, atomic_by, instr_by, instr_of}
use Rattle.rv_decode.specs.Encodes.{IsAtomic, Encodes}

-- an operation's codes select it
branch_again : (op : BranchOp) → branch_op_of (branch_f3 op) ≡ Some op
branch_again Beq = refl
branch_again Bne = refl
branch_again Blt = refl
branch_again Bge = refl
branch_again Bltu = refl
branch_again Bgeu = refl

load_again : (op : LoadOp) → load_op_of (load_f3 op) ≡ Some op
load_again Lb = refl
load_again Lh = refl
load_again Lw = refl
load_again Lbu = refl
load_again Lhu = refl

store_again : (op : StoreOp) → store_op_of (store_f3 op) ≡ Some op
store_again Sb = refl
store_again Sh = refl
store_again Sw = refl

imm_again : (op : ImmOp) → imm_op_of (imm_f3 op) ≡ Some op
imm_again Addi = refl
imm_again Slti = refl
imm_again Sltiu = refl
imm_again Xori = refl
imm_again Ori = refl
imm_again Andi = refl

shift_again : (op : ShiftOp) → shift_op_of (shift_f7 op) (shift_f3 op) ≡ Some op
shift_again Slli = refl
shift_again Srli = refl
shift_again Srai = refl

-- a shift's code is that of no other operation with an immediate
no_imm : (op : ShiftOp) → imm_op_of (shift_f3 op) ≡ None
no_imm Slli = refl
no_imm Srli = refl
no_imm Srai = refl

reg_again : (op : RegOp) → reg_op_of (reg_f7 op) (reg_f3 op) ≡ Some op
reg_again Add = refl
reg_again Sll = refl
reg_again Slt = refl
reg_again Sltu = refl
reg_again Xor = refl
reg_again Srl = refl
reg_again Or = refl
reg_again And = refl
reg_again Sub = refl
reg_again Sra = refl
reg_again Mul = refl
reg_again Mulh = refl
reg_again Mulhsu = refl
reg_again Mulhu = refl
reg_again Div = refl
reg_again Divu = refl
reg_again Rem = refl
reg_again Remu = refl

amo_again : (op : AmoOp) → amo_op_of (amo_funct5 op) ≡ Some op
amo_again Amoswap = refl
amo_again Amoadd = refl
amo_again Amoxor = refl
amo_again Amoand = refl
amo_again Amoor = refl
amo_again Amomin = refl
amo_again Amomax = refl
amo_again Amominu = refl
amo_again Amomaxu = refl

-- an operation on memory is neither LR nor SC
amo_by : (op : AmoOp) (word : ℕ) → atomic_by (amo_funct5 op) word ≡ amo_of word
amo_by Amoswap word = refl
amo_by Amoadd word = refl
amo_by Amoxor word = refl
amo_by Amoand word = refl
amo_by Amoor word = refl
amo_by Amomin word = refl
amo_by Amomax word = refl
amo_by Amominu word = refl
amo_by Amomaxu word = refl

flag_of : (n : ℕ) (b : Bool) → n ≡ bit_of b → eqb n 1 ≡ b
flag_of n true e = ap (λ m. eqb m 1) e
flag_of n false e = ap (λ m. eqb m 1) e

-- the group of an opcode answers
answers : (word opcode : ℕ) → opcode_of word ≡ opcode → instr_of word ≡ instr_by opcode word
answers word opcode o = ap (λ n. instr_by n word) o

-- what a group looks up
branch_row : (word : ℕ) (op : BranchOp) → f3_of word ≡ branch_f3 op → branch_of word ≡ Some (Branch op (rs1_of word) (rs2_of word) (immediate_b word))
branch_row word op f3 =
    ap (option_map (λ o. Branch o (rs1_of word) (rs2_of word) (immediate_b word))) (ap branch_op_of f3 ∙ branch_again op)

load_row : (word : ℕ) (op : LoadOp) → f3_of word ≡ load_f3 op → load_of word ≡ Some (Load op (rd_of word) (rs1_of word) (immediate_i word))
load_row word op f3 =
    ap (option_map (λ o. Load o (rd_of word) (rs1_of word) (immediate_i word))) (ap load_op_of f3 ∙ load_again op)

store_row : (word : ℕ) (op : StoreOp) → f3_of word ≡ store_f3 op → store_of word ≡ Some (Store op (rs1_of word) (rs2_of word) (immediate_s word))
store_row word op f3 =
    ap (option_map (λ o. Store o (rs1_of word) (rs2_of word) (immediate_s word))) (ap store_op_of f3 ∙ store_again op)

imm_row : (word : ℕ) (op : ImmOp) → f3_of word ≡ imm_f3 op → imm_of word ≡ Some (Imm op (rd_of word) (rs1_of word) (immediate_i word))
imm_row word op f3 =
    ap (option_map (λ o. Imm o (rd_of word) (rs1_of word) (immediate_i word))) (ap imm_op_of f3 ∙ imm_again op)

shift_row : (word : ℕ) (op : ShiftOp) → f3_of word ≡ shift_f3 op → f7_of word ≡ shift_f7 op → shift_of word ≡ Some (Shift op (rd_of word) (rs1_of word) (rs2_of word))
shift_row word op f3 f7 =
    ap (option_map (λ o. Shift o (rd_of word) (rs1_of word) (rs2_of word)))
    (ap (λ n. shift_op_of n (f3_of word)) f7 ∙ ap (shift_op_of (shift_f7 op)) f3 ∙ shift_again op)

-- a shift is no other operation with an immediate
shift_alone : (word : ℕ) (op : ShiftOp) → f3_of word ≡ shift_f3 op → imm_of word ≡ None
shift_alone word op f3 =
    ap (option_map (λ o. Imm o (rd_of word) (rs1_of word) (immediate_i word))) (ap imm_op_of f3 ∙ no_imm op)

reg_row : (word : ℕ) (op : RegOp) → f3_of word ≡ reg_f3 op → f7_of word ≡ reg_f7 op → reg_of word ≡ Some (Reg op (rd_of word) (rs1_of word) (rs2_of word))
reg_row word op f3 f7 =
    ap (option_map (λ o. Reg o (rd_of word) (rs1_of word) (rs2_of word)))
    (ap (λ n. reg_op_of n (f3_of word)) f7 ∙ ap (reg_op_of (reg_f7 op)) f3 ∙ reg_again op)

amo_row : (word : ℕ) (op : AmoOp) → funct5_of word ≡ amo_funct5 op → amo_of word ≡ Some (Amo op (rd_of word) (rs1_of word) (rs2_of word) (eqb (aq_of word) 1) (eqb (rl_of word) 1))
amo_row word op funct5 =
    ap (option_map (λ o. Amo o (rd_of word) (rs1_of word) (rs2_of word) (eqb (aq_of word) 1) (eqb (rl_of word) 1)))
    (ap amo_op_of funct5 ∙ amo_again op)

guarded : (b : Bool) (i : Instr) → b ≡ true → cond b (Some i) None ≡ Some i
guarded b i t = cond-true b (Some i) None t

atomic_answers : (word funct5 : ℕ) (aq rl : Bool) (rd rs1 rs2 : ℕ) → IsAtomic word funct5 aq rl rd rs1 rs2 → instr_of word ≡ atomic_by funct5 word
unfolding instr_by
atomic_answers word funct5 aq rl rd rs1 rs2 e =
    answers word 0b0101111 e.has_opcode
    ∙ cond-true (eqb (f3_of word) 0b010) (atomic_by (funct5_of word) word) None (eq-eqb _ _ e.has_f3)
    ∙ ap (λ n. atomic_by n word) e.has_funct5

pub only : (word : ℕ) (i : Instr) → Encodes word i → instr_of word ≡ Some i
unfolding instr_by
only word (Lui rd upper) e = answers word 0b0110111 e.has_opcode ∙ cc
only word (Auipc rd upper) e = answers word 0b0010111 e.has_opcode ∙ cc
only word (Jal rd offset) e = answers word 0b1101111 e.has_opcode ∙ cc
only word (Jalr rd rs1 offset) e =
    answers word 0b1100111 e.has_opcode
    ∙ guarded (eqb (f3_of word) 0) (Jalr (rd_of word) (rs1_of word) (immediate_i word)) (eq-eqb _ _ e.has_f3)
    ∙ cc
only word (Branch op rs1 rs2 offset) e = answers word 0b1100011 e.has_opcode ∙ branch_row word op e.has_f3 ∙ cc
only word (Load op rd rs1 offset) e = answers word 0b0000011 e.has_opcode ∙ load_row word op e.has_f3 ∙ cc
only word (Store op rs1 rs2 offset) e = answers word 0b0100011 e.has_opcode ∙ store_row word op e.has_f3 ∙ cc
only word (Imm op rd rs1 value) e =
    answers word 0b0010011 e.has_opcode ∙ ap (λ o. option_or o (shift_of word)) (imm_row word op e.has_f3) ∙ cc
only word (Shift op rd rs1 amount) e =
    answers word 0b0010011 e.has_opcode
    ∙ ap (λ o. option_or o (shift_of word)) (shift_alone word op e.has_f3)
    ∙ shift_row word op e.has_f3 e.has_f7
    ∙ cc
only word (Reg op rd rs1 rs2) e = answers word 0b0110011 e.has_opcode ∙ reg_row word op e.has_f3 e.has_f7 ∙ cc
only word (Lr rd rs1 aq rl) e =
    let ordered = flag_of _ aq e.has_aq in
    let released = flag_of _ rl e.has_rl in
    atomic_answers word 0b00010 aq rl rd rs1 0 e
    ∙ guarded (eqb (rs2_of word) 0) (Lr (rd_of word) (rs1_of word) (eqb (aq_of word) 1) (eqb (rl_of word) 1)) (eq-eqb _ _ e.has_rs2)
    ∙ cc
only word (Sc rd rs1 rs2 aq rl) e =
    let ordered = flag_of _ aq e.has_aq in
    let released = flag_of _ rl e.has_rl in
    atomic_answers word 0b00011 aq rl rd rs1 rs2 e ∙ cc
only word (Amo op rd rs1 rs2 aq rl) e =
    let ordered = flag_of _ aq e.has_aq in
    let released = flag_of _ rl e.has_rl in
    atomic_answers word (amo_funct5 op) aq rl rd rs1 rs2 e ∙ amo_by op word ∙ amo_row word op e.has_funct5 ∙ cc
only word (Fence fence) e =
    answers word 0b0001111 e.has_opcode ∙ guarded (eqb (f3_of word) 0) (Fence word) (eq-eqb _ _ e.has_f3) ∙ cc
only word Ecall e = ap instr_of e
only word Ebreak e = ap instr_of e
