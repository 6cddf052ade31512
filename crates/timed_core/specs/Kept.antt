-- Which instruction is kept.
use Rattle.std.specs.Prelude.{Option, Some, None}
use Rattle.slack_base.specs.declared.instructions.Instr.{Instr}
use Rattle.slack_base.specs.declared.instructions.Instr.TheVariants.{Lui, Auipc, Jal, Jalr, Branch, Load, Store, Imm, Shift, Reg, Lr, Sc, Amo, Fence, Ecall, Ebreak}
use Rattle.slack_base.specs.declared.instructions.BranchOp.TheVariants as branches
use Rattle.slack_base.specs.declared.instructions.LoadOp.TheVariants as loads
use Rattle.slack_base.specs.declared.instructions.StoreOp.TheVariants as stores
use Rattle.slack_base.specs.declared.instructions.ImmOp.TheVariants as immediates
use Rattle.slack_base.specs.declared.instructions.ShiftOp.TheVariants as shifts
use Rattle.slack_base.specs.declared.instructions.RegOp.TheVariants as operations
use Rattle.timed_core.specs.declared.kept.Kept.{Kept}
use Rattle.timed_core.specs.declared.kept.Kept.TheVariants as kept

-- the instruction of the same name and fields
abbrev pub instr_in : Kept → Option Instr
instr_in kept.Nothing = None
instr_in (kept.Lui rd upper) = Some (Lui rd upper)
instr_in (kept.Auipc rd upper) = Some (Auipc rd upper)
instr_in (kept.Jal rd offset) = Some (Jal rd offset)
instr_in (kept.Jalr rd rs1 offset) = Some (Jalr rd rs1 offset)
instr_in (kept.Beq rs1 rs2 offset) = Some (Branch branches.Beq rs1 rs2 offset)
instr_in (kept.Bne rs1 rs2 offset) = Some (Branch branches.Bne rs1 rs2 offset)
instr_in (kept.Blt rs1 rs2 offset) = Some (Branch branches.Blt rs1 rs2 offset)
instr_in (kept.Bge rs1 rs2 offset) = Some (Branch branches.Bge rs1 rs2 offset)
instr_in (kept.Bltu rs1 rs2 offset) = Some (Branch branches.Bltu rs1 rs2 offset)
instr_in (kept.Bgeu rs1 rs2 offset) = Some (Branch branches.Bgeu rs1 rs2 offset)
instr_in (kept.Lb rd rs1 offset) = Some (Load loads.Lb rd rs1 offset)
instr_in (kept.Lh rd rs1 offset) = Some (Load loads.Lh rd rs1 offset)
instr_in (kept.Lw rd rs1 offset) = Some (Load loads.Lw rd rs1 offset)
instr_in (kept.Lbu rd rs1 offset) = Some (Load loads.Lbu rd rs1 offset)
instr_in (kept.Lhu rd rs1 offset) = Some (Load loads.Lhu rd rs1 offset)
instr_in (kept.Sb rs1 rs2 offset) = Some (Store stores.Sb rs1 rs2 offset)
instr_in (kept.Sh rs1 rs2 offset) = Some (Store stores.Sh rs1 rs2 offset)
instr_in (kept.Sw rs1 rs2 offset) = Some (Store stores.Sw rs1 rs2 offset)
instr_in (kept.Addi rd rs1 value) = Some (Imm immediates.Addi rd rs1 value)
instr_in (kept.Slti rd rs1 value) = Some (Imm immediates.Slti rd rs1 value)
instr_in (kept.Sltiu rd rs1 value) = Some (Imm immediates.Sltiu rd rs1 value)
instr_in (kept.Xori rd rs1 value) = Some (Imm immediates.Xori rd rs1 value)
instr_in (kept.Ori rd rs1 value) = Some (Imm immediates.Ori rd rs1 value)
instr_in (kept.Andi rd rs1 value) = Some (Imm immediates.Andi rd rs1 value)
instr_in (kept.Slli rd rs1 amount) = Some (Shift shifts.Slli rd rs1 amount)
instr_in (kept.Srli rd rs1 amount) = Some (Shift shifts.Srli rd rs1 amount)
instr_in (kept.Srai rd rs1 amount) = Some (Shift shifts.Srai rd rs1 amount)
instr_in (kept.Add rd rs1 rs2) = Some (Reg operations.Add rd rs1 rs2)
instr_in (kept.Sll rd rs1 rs2) = Some (Reg operations.Sll rd rs1 rs2)
instr_in (kept.Slt rd rs1 rs2) = Some (Reg operations.Slt rd rs1 rs2)
instr_in (kept.Sltu rd rs1 rs2) = Some (Reg operations.Sltu rd rs1 rs2)
instr_in (kept.Xor rd rs1 rs2) = Some (Reg operations.Xor rd rs1 rs2)
instr_in (kept.Srl rd rs1 rs2) = Some (Reg operations.Srl rd rs1 rs2)
instr_in (kept.Or rd rs1 rs2) = Some (Reg operations.Or rd rs1 rs2)
instr_in (kept.And rd rs1 rs2) = Some (Reg operations.And rd rs1 rs2)
instr_in (kept.Sub rd rs1 rs2) = Some (Reg operations.Sub rd rs1 rs2)
instr_in (kept.Sra rd rs1 rs2) = Some (Reg operations.Sra rd rs1 rs2)
instr_in (kept.Mul rd rs1 rs2) = Some (Reg operations.Mul rd rs1 rs2)
instr_in (kept.Mulh rd rs1 rs2) = Some (Reg operations.Mulh rd rs1 rs2)
instr_in (kept.Mulhsu rd rs1 rs2) = Some (Reg operations.Mulhsu rd rs1 rs2)
instr_in (kept.Mulhu rd rs1 rs2) = Some (Reg operations.Mulhu rd rs1 rs2)
instr_in (kept.Div rd rs1 rs2) = Some (Reg operations.Div rd rs1 rs2)
instr_in (kept.Divu rd rs1 rs2) = Some (Reg operations.Divu rd rs1 rs2)
instr_in (kept.Rem rd rs1 rs2) = Some (Reg operations.Rem rd rs1 rs2)
instr_in (kept.Remu rd rs1 rs2) = Some (Reg operations.Remu rd rs1 rs2)
instr_in (kept.Lr rd rs1 aq rl) = Some (Lr rd rs1 aq rl)
instr_in (kept.Sc rd rs1 rs2 aq rl) = Some (Sc rd rs1 rs2 aq rl)
instr_in (kept.Amo op rd rs1 rs2 aq rl) = Some (Amo op rd rs1 rs2 aq rl)
instr_in (kept.Fence word) = Some (Fence word)
instr_in kept.Ecall = Some Ecall
instr_in kept.Ebreak = Some Ebreak

-- the instruction of what is kept, if anything is
abbrev pub instr_of_kept : Option Kept → Option Instr
instr_of_kept None = None
instr_of_kept (Some kept) = instr_in kept
