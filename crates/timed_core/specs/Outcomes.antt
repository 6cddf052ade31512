-- What a cycle of a hart comes to.
use Rattle.std.specs.Prelude.{◌≡◌, ℕ, ◌%◌, Bool, true, false, List, slice_index, Option, Some, None, if◌then◌else◌}
use Rattle.slack_base.specs.declared.stamps.Id.{Id}
use Rattle.slack_base.specs.declared.messages.Ask.{Ask}
use Rattle.slack_base.specs.declared.messages.Ask.TheVariants as sent
use Rattle.slack_base.specs.declared.instructions.Instr.{Instr}
use Rattle.slack_base.specs.declared.instructions.BranchOp.{BranchOp}
use Rattle.rv_exec.specs.Branch.{is_taken}
use Rattle.timed_core.specs.Code.{CodeValue}
use Rattle.timed_core.specs.Cores.{HartValue, is_running}
use Rattle.timed_core.specs.Effects.{effect_of, goes_to, cost_of}
use Rattle.timed_core.specs.Ticks.{id_at, performed}
use Rattle.timed_core.specs.declared.effects.Effect.{Effect}
use Rattle.timed_core.specs.declared.effects.Effect.TheVariants.{Branch, Pass}
use Rattle.timed_core.specs.declared.outcomes.Outcome.{Outcome}
use Rattle.timed_core.specs.declared.outcomes.Outcome.TheVariants.{Ready, Rests, Read, ReadOwn, Put}

-- the hart executes an instruction in its next cycle
pub record IsReady (core : HartValue) : Type 0 where
  pub running : is_running core.ended ≡ true
  pub free : core.busy ≡ 0
  pub awake : core.waiting ≡ false

-- something is asked for
abbrev pub asks : Outcome → Bool
asks Ready = false
asks Rests = false
asks _ = true

-- the ask with this id, if something is asked for
abbrev pub ask_of : Outcome → Id → Option Ask
ask_of Ready id = None
ask_of Rests id = None
ask_of (Read line) id = Some (sent.Read id line)
ask_of (ReadOwn line) id = Some (sent.ReadOwn id line)
ask_of (Put word) id = Some (sent.Put id (word % 256))

-- what a step came to: the hart after it, of the same number; what is asked for with this id; and that the hart is ready
-- where it says so
pub record Does (out : HartValue × Option Ask) (id : Id) (new : HartValue) (outcome : Outcome) : Type 0 where
  pub after : new ≡ out.0
  pub ask : ask_of outcome id ≡ out.1
  pub ready : outcome ≡ Ready → IsReady new
  pub number : new.number ≡ id.core

-- the same of a step in a cycle, whatever number its ask has
abbrev pub DoesAt : (Id → HartValue × Option Ask) → (cycle : ℕ) → (old new : HartValue) → Outcome → Type 0
DoesAt out cycle old new outcome = (number : ℕ) → Does (out (id_at cycle old number)) (id_at cycle old number) new outcome

-- the effect of a branch to a target over registers x
abbrev pub branching : BranchOp → (rs1 rs2 target : ℕ) → List ℕ → Effect
branching op rs1 rs2 target x = if is_taken op (slice_index x rs1) (slice_index x rs2) then goes_to target (Branch target) else Pass

-- the instruction that is kept is executed
unfoldable pub executed : CodeValue → Option Instr → Id → HartValue → HartValue × Option Ask
executed code None id core = (core, None)
executed code (Some instr) id core = performed code (effect_of instr core.registers core.pc) (cost_of instr) id core
