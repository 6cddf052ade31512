-- For how many cycles a hart to which no post comes certainly asks for nothing, as its next instructions tell.
use Rattle.std.specs.Prelude.{ℕ, ℤ, zero, suc, ◌+◌, ◌&&◌, Bool, true, false, not, ◌||◌, Option, Some, None, replicate, min, slice_index, slice_index_or, slice_set, if◌then◌else◌}
use Rattle.slack_base.specs.declared.instructions.Instr.{Instr}
use Rattle.slack_base.specs.declared.instructions.Instr.TheVariants.{Lui, Auipc, Jal, Jalr, Branch, Load, Store, Imm, Shift, Reg, Lr, Sc, Amo, Fence, Ecall, Ebreak}
use Rattle.rv_exec.specs.Target.{target_of}
use Rattle.std.specs.Option.{option_map}
use Rattle.mesi_cache.specs.declared.lines.Held.{Held}
use Rattle.mesi_cache.specs.Lines.{may_write}
use Rattle.mesi_cache.specs.Caches.{CacheValue, line_in}
use Rattle.timed_core.specs.Code.{CodeValue, instr_at, is_in_memory}
use Rattle.timed_core.specs.Cores.{HartValue, is_running, next_of, line_number}
use Rattle.timed_core.specs.Effects.{reg_cost_of}
use Rattle.timed_core.specs.declared.harts.foresight.Ahead.{Ahead}
use Rattle.timed_core.specs.declared.harts.foresight.Course.{Course}
use Rattle.timed_core.specs.declared.harts.foresight.Course.TheVariants.{MayAsk, Turns, GoesOn}

-- a load hits a line that is held in this state, or a store does
abbrev pub hits_state : (stores : Bool) → Option Held → Bool
hits_state stores None = false
hits_state stores (Some held) = not stores || may_write held

-- the same of a line of a cache
abbrev pub hits_line : (stores : Bool) → CacheValue → (line : ℕ) → Bool
hits_line stores cache line = hits_state stores (option_map (λ l. l.held) (line_in cache line))

-- the load or store certainly hits its line: no instruction before it writes its base register, and its line is held
-- so now
abbrev pub hits_ahead : CodeValue → HartValue → Ahead → (stores : Bool) → (rs1 : ℕ) → (offset : ℤ) → Bool
hits_ahead code core at stores rs1 offset =
    let address = target_of (slice_index core.registers rs1) offset in
    not (slice_index_or at.written rs1 false)
    && (is_in_memory code address && hits_line stores core.cache (line_number code.base address))

-- the next address, after an instruction that writes this register, or none
abbrev pub after_write : ℕ → Ahead → Ahead
after_write rd at = record { address = next_of at.address; written = slice_set at.written rd true }

abbrev pub after_pass : Ahead → Ahead
after_pass at = record at { address = next_of at.address }

abbrev pub after_jump : ℕ → ℤ → Ahead → Ahead
after_jump rd offset at = record { address = target_of at.address offset; written = slice_set at.written rd true }

abbrev pub load_course : CodeValue → HartValue → Ahead → (rd rs1 : ℕ) → (offset : ℤ) → Course × Ahead
load_course code core at rd rs1 offset = if hits_ahead code core at false rs1 offset then (GoesOn 1, after_write rd at) else (MayAsk, at)

abbrev pub store_course : CodeValue → HartValue → Ahead → (rs1 : ℕ) → (offset : ℤ) → Course × Ahead
store_course code core at rs1 offset = if hits_ahead code core at true rs1 offset then (GoesOn 1, after_pass at) else (MayAsk, at)

-- what is known of an instruction ahead, and where the next one stands: a service, LR, SC, an AMO, and a load or store
-- that may miss may ask for something; behind JALR, a branch and EBREAK it isn't known what is executed
abbrev pub course_of : CodeValue → HartValue → Ahead → Option Instr → Course × Ahead
course_of code core at None = (MayAsk, at)
course_of code core at (Some (Lui rd upper)) = (GoesOn 1, after_write rd at)
course_of code core at (Some (Auipc rd upper)) = (GoesOn 1, after_write rd at)
course_of code core at (Some (Jal rd offset)) = (GoesOn 1, after_jump rd offset at)
course_of code core at (Some (Jalr rd rs1 offset)) = (Turns, at)
course_of code core at (Some (Branch op rs1 rs2 offset)) = (Turns, at)
course_of code core at (Some (Load op rd rs1 offset)) = load_course code core at rd rs1 offset
course_of code core at (Some (Store op rs1 rs2 offset)) = store_course code core at rs1 offset
course_of code core at (Some (Imm op rd rs1 value)) = (GoesOn 1, after_write rd at)
course_of code core at (Some (Shift op rd rs1 amount)) = (GoesOn 1, after_write rd at)
course_of code core at (Some (Reg op rd rs1 rs2)) = (GoesOn (reg_cost_of op), after_write rd at)
course_of code core at (Some (Lr rd rs1 aq rl)) = (MayAsk, at)
course_of code core at (Some (Sc rd rs1 rs2 aq rl)) = (MayAsk, at)
course_of code core at (Some (Amo op rd rs1 rs2 aq rl)) = (MayAsk, at)
course_of code core at (Some (Fence word)) = (GoesOn 1, after_pass at)
course_of code core at (Some Ecall) = (MayAsk, at)
course_of code core at (Some Ebreak) = (Turns, at)

-- the cycles of an instruction of this course and of those behind it
abbrev pub cycles_by : Course → (behind : ℕ) → ℕ
cycles_by MayAsk behind = 0
cycles_by Turns behind = 1
cycles_by (GoesOn cost) behind = cost + behind

-- the next instruction is known
abbrev pub goes_on : Course → Bool
goes_on (GoesOn cost) = true
goes_on _ = false

-- the cycles in which the next so many instructions certainly ask for nothing
unfoldable pub cycles_ahead : CodeValue → HartValue → (count : ℕ) → Ahead → ℕ
cycles_ahead code core zero at = 0
cycles_ahead code core (suc count) at =
    let course = course_of code core at (instr_at code at.address) in
    cycles_by course.0 (cycles_ahead code core count course.1)

-- at pc, before anything is written
abbrev pub here : HartValue → Ahead
here core = record { address = core.pc; written = replicate 32 false }

-- for how many of so many cycles a hart to which no post comes certainly asks for nothing: for all of them once it has
-- ended or while it waits for a line, and else while it is busy and as far as its next 64 instructions tell
abbrev pub rest_of : CodeValue → HartValue → (most : ℕ) → ℕ
rest_of code core most =
    if is_running core.ended && not core.waiting then min most (core.busy + cycles_ahead code core 64 (here core)) else most
