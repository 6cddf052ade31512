-- A core without the posts that wait for it: what its ticks read and change.
use Rattle.std.specs.Prelude.{ℕ, ◌+◌, ◌-◌, ◌*◌, ◌/◌, ◌%◌, ◌^◌, ◌==◌, ◌≤◌, Bool, true, false, List, Option, None, replicate, slice_set, if◌then◌else◌}
use Rattle.slack_base.specs.declared.cores.CoreEnd.{CoreEnd}
use Rattle.slack_base.specs.declared.cores.CoreEnd.TheVariants.{Running, Exit, Trapped}
use Rattle.slack_base.specs.declared.cores.Counts.{Counts}
use Rattle.slack_base.specs.declared.cores.Trap.{Trap}
use Rattle.slack_base.specs.declared.configs.RawConfig.{RawConfig}
use Rattle.slack_base.specs.Growing.{raised}
use Rattle.mesi_cache.specs.Caches.{CacheValue, empty_cache}

-- all of a core but its inbox
pub record HartValue : Type 0 where
  pub number : ℕ
  pub pc : ℕ
  pub registers : List ℕ
  -- the address of the word that LR reserved, until the reservation is lost
  pub reservation : Option ℕ
  pub cache : CacheValue
  -- for each set of the cache the cycle from which on the core touched it no more
  pub touches : List ℕ
  -- the cycles that the last instruction still takes
  pub busy : ℕ
  -- a line was asked for, and the answer hasn't come
  pub waiting : Bool
  pub ended : CoreEnd
  pub counts : Counts

abbrev pub is_running : CoreEnd → Bool
is_running Running = true
is_running (Exit at code) = false
is_running (Trapped at trap) = false

-- the core has ended by this clock, if it has ended
abbrev pub IsBy : ℕ → CoreEnd → Type 0
IsBy clock Running = Unit {0}
IsBy clock (Exit at code) = at ≤ clock
IsBy clock (Trapped at trap) = at ≤ clock

-- registers with a value written; x0 stays 0
abbrev pub with_register : List ℕ → ℕ → ℕ → List ℕ
with_register x rd value = if rd == 0 then x else slice_set x rd value

-- the instruction of the following address
abbrev pub next_of : ℕ → ℕ
next_of pc = (pc + 4) % 2 ^ 32

-- the core with its instruction completed
abbrev pub completed : HartValue → (registers : List ℕ) (pc cost : ℕ) → HartValue
completed core registers pc cost = record core {
  pc = pc;
  registers = registers;
  busy = cost - 1;
  counts = record core.counts { retired = raised core.counts.retired };
}

-- an instruction that goes on to the next
abbrev pub goes_on : (cost : ℕ) → HartValue → HartValue
goes_on cost core = completed core core.registers (next_of core.pc) cost

-- an instruction that writes a register and goes on to the next
abbrev pub gives : (rd value cost : ℕ) → HartValue → HartValue
gives rd value cost core = completed core (with_register core.registers rd value) (next_of core.pc) cost

-- a trap retires nothing, and leaves all but the end
abbrev pub trapped : HartValue → ℕ → Trap → HartValue
trapped core t trap = record core { ended = Trapped t trap }

-- a line is 16 bytes, and lines are numbered from the base of memory on
abbrev pub line_number : (base address : ℕ) → ℕ
line_number base address = (address - base) / 16

-- at the start x10 is the core's number, x2 is the end of memory less 4096 bytes of stack for each core before it,
-- and every other register is 0
abbrev pub first_registers : RawConfig → ℕ → List ℕ
first_registers config number =
    slice_set (slice_set (replicate 32 0) 10 number) 2 ((config.base + config.memory - 4096 * number) % 2 ^ 32)

-- a core before the first cycle: its cache is empty, and nothing is waited for
abbrev pub first_core : RawConfig → (entry number : ℕ) → HartValue
first_core config entry number = record {
  number = number;
  pc = entry;
  registers = first_registers config number;
  reservation = None;
  cache = empty_cache config.sets config.ways;
  touches = replicate config.sets 0;
  busy = 0;
  waiting = false;
  ended = Running;
  counts = record { retired = 0; accesses = 0; misses = 0; retries = 0; waits = 0; snoops = 0; writebacks = 0 };
}
