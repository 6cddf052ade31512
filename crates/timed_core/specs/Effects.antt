-- What an instruction does, as its page of the manual says (RISC-V Unprivileged ISA 20191213, chapters 2, 7 and 8).
use Rattle.std.specs.Prelude.{ℕ, ◌+◌, ◌-◌, ◌*◌, ◌%◌, ◌^◌, ◌==◌, ◌<◌, List, slice_index, if◌then◌else◌}
use Rattle.slack_base.specs.declared.instructions.Instr.{Instr}
use Rattle.slack_base.specs.declared.instructions.Instr.TheVariants.{Lui, Auipc, Jal, Jalr, Branch as BranchInstr, Load as LoadInstr, Store as StoreInstr, Imm, Shift, Reg, Lr, Sc, Amo as AmoInstr, Fence, Ecall, Ebreak}
use Rattle.slack_base.specs.declared.instructions.RegOp.{RegOp}
use Rattle.slack_base.specs.declared.instructions.RegOp.TheVariants.{Mul, Mulh, Mulhsu, Mulhu, Div, Divu, Rem, Remu}
use Rattle.slack_base.specs.declared.cores.Trap.TheVariants.{Target, Break}
use Rattle.slack_base.specs.Operations.{reg_op_of, reg_op_of_shift}
use Rattle.rv_exec.specs.Words.{word_of}
use Rattle.rv_exec.specs.Alu.{alu_of}
use Rattle.rv_exec.specs.Branch.{is_taken}
use Rattle.rv_exec.specs.Target.{target_of}
use Rattle.timed_core.specs.declared.accesses.Access.{Access}
use Rattle.timed_core.specs.declared.accesses.Access.TheVariants.{Load, Store, LoadReserved, StoreConditional, Amo}
use Rattle.timed_core.specs.declared.effects.Effect.{Effect}
use Rattle.timed_core.specs.declared.effects.Effect.TheVariants.{Write, Jump, Branch, Pass, Memory, Stop, Call}

-- the effect, unless the target is no multiple of 4
abbrev pub goes_to : ℕ → Effect → Effect
goes_to target effect = if target % 4 == 0 then effect else Stop (Target target)

-- the address without its lowest bit
abbrev pub even_of : ℕ → ℕ
even_of address = address - address % 2

-- the effect of the instruction at pc over registers x
unfoldable pub effect_of : Instr → List ℕ → ℕ → Effect
effect_of (Lui rd upper) x pc = Write rd (upper * 2 ^ 12)
effect_of (Auipc rd upper) x pc = Write rd ((pc + upper * 2 ^ 12) % 2 ^ 32)
effect_of (Jal rd offset) x pc = let target = target_of pc offset in goes_to target (Jump rd target)
effect_of (Jalr rd rs1 offset) x pc = let target = even_of (target_of (slice_index x rs1) offset) in goes_to target (Jump rd target)
effect_of (BranchInstr op rs1 rs2 offset) x pc =
    let target = target_of pc offset in
    if is_taken op (slice_index x rs1) (slice_index x rs2) then goes_to target (Branch target) else Pass
effect_of (LoadInstr op rd rs1 offset) x pc = Memory (target_of (slice_index x rs1) offset) (Load op rd)
effect_of (StoreInstr op rs1 rs2 offset) x pc = Memory (target_of (slice_index x rs1) offset) (Store op (slice_index x rs2))
effect_of (Imm op rd rs1 value) x pc = Write rd (alu_of (reg_op_of op) (slice_index x rs1) (word_of value))
effect_of (Shift op rd rs1 amount) x pc = Write rd (alu_of (reg_op_of_shift op) (slice_index x rs1) amount)
effect_of (Reg op rd rs1 rs2) x pc = Write rd (alu_of op (slice_index x rs1) (slice_index x rs2))
effect_of (Lr rd rs1 aq rl) x pc = Memory (slice_index x rs1) (LoadReserved rd)
effect_of (Sc rd rs1 rs2 aq rl) x pc = Memory (slice_index x rs1) (StoreConditional rd (slice_index x rs2))
effect_of (AmoInstr op rd rs1 rs2 aq rl) x pc = Memory (slice_index x rs1) (Amo op rd (slice_index x rs2))
effect_of (Fence word) x pc = Pass
effect_of Ecall x pc = Call
effect_of Ebreak x pc = Stop (Break pc)

-- how many cycles an operation on two registers takes
abbrev pub reg_cost_of : RegOp → ℕ
reg_cost_of Mul = 3
reg_cost_of Mulh = 3
reg_cost_of Mulhsu = 3
reg_cost_of Mulhu = 3
reg_cost_of Div = 16
reg_cost_of Divu = 16
reg_cost_of Rem = 16
reg_cost_of Remu = 16
reg_cost_of _ = 1

-- how many cycles an instruction takes
abbrev pub cost_of : Instr → ℕ
cost_of (Reg op rd rs1 rs2) = reg_cost_of op
cost_of Ecall = 4
cost_of _ = 1

-- a register that an access writes is one of the 32
abbrev pub WritesRegister : Access → Type 0
WritesRegister (Load op rd) = rd < 32
WritesRegister (Store op value) = Unit {0}
WritesRegister (LoadReserved rd) = rd < 32
WritesRegister (StoreConditional rd value) = rd < 32
WritesRegister (Amo op rd operand) = rd < 32

-- a register that an effect writes is one of the 32
abbrev pub NamesRegister : Effect → Type 0
NamesRegister (Write rd value) = rd < 32
NamesRegister (Jump rd target) = rd < 32
NamesRegister (Memory address access) = WritesRegister access
NamesRegister _ = Unit {0}
