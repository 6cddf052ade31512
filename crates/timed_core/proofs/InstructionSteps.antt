-- What a core does after its posts is a step.
use Rattle.std.proofs.Common.{◌≡◌, ℕ, ◌*◌, ◌==◌, get_or, Bool, true, false, Option, None, Some, length, refl, inl, inr, cond}
use Rattle.std.proofs.lemmas.Bool.{cases_Bool}
use Rattle.slack_base.specs.Growing.{raised}
use Rattle.slack_base.specs.Numbers.{lines_of}
use Rattle.slack_base.specs.declared.configs.RawConfig.{RawConfig}
use Rattle.slack_base.specs.declared.stamps.Id.{Id}
use Rattle.slack_base.specs.declared.instructions.Instr.{Instr}
use Rattle.slack_base.specs.declared.cores.Trap.TheVariants.{Fetch, Illegal}
use Rattle.rv_decode.specs.Decoding.{instr_of}
use Rattle.timed_core.specs.Code.{CodeValue, word_at}
use Rattle.timed_core.specs.Cores.{HartValue, is_running, next_of, completed}
use Rattle.timed_core.specs.Effects.{effect_of, cost_of}
use Rattle.timed_core.specs.Laws.{IsSoundHart}
use Rattle.timed_core.specs.Ticks.{called, performed, decoded, fetched, stepped}
use Rattle.timed_core.specs.declared.effects.Effect.{Effect}
use Rattle.timed_core.specs.declared.effects.Effect.TheVariants.{Write, Jump, Branch, Pass, Memory, Stop, Call}
use Rattle.timed_core.proofs.Steps.{IsStep, zero_kept, quiet, stays, gives_step, goes_on_step, trapped_step}
use Rattle.timed_core.proofs.AccessSteps.{accessed_step}

module _ (config : RawConfig) (code : CodeValue) (whole : length code.bytes ≡ 16 * lines_of config) (id : Id) (core : HartValue) (s : IsSoundHart config core) where
  called_step : (cost : ℕ) → IsStep config core.number id (called cost id core)
  unfolding called
  called_step cost = elim (cases_Bool (get_or core.registers 17 0 == 1)) [
    | inl puts ↦ rw puts (record { sound = record { number = s.number; zero = s.zero; cache = s.cache; touches = s.touches }; same = refl; ask = (refl, tt) })
    | inr other ↦ elim (cases_Bool (get_or core.registers 17 0 == 93)) [
      | inl exits ↦ rw (other, exits) (quiet config id core s _ refl refl refl refl)
      | inr none ↦ rw (other, none) (trapped_step config id core s id.cycle _)
    ]
  ]

  performed_step : (effect : Effect) (cost : ℕ) → IsStep config core.number id (performed code effect cost id core)
  unfolding performed
  performed_step (Write rd value) cost = gives_step config id core s rd value cost
  performed_step (Jump rd target) cost = record { sound = record { number = s.number; zero = zero_kept core.registers rd (next_of core.pc) s.zero; cache = s.cache; touches = s.touches }; same = refl; ask = tt }
  performed_step (Branch target) cost = quiet config id core s (completed core core.registers target cost) refl refl refl refl
  performed_step Pass cost = goes_on_step config id core s cost
  performed_step (Memory address access) cost = accessed_step config code address cost id core access whole s
  performed_step (Stop trap) cost = trapped_step config id core s id.cycle trap
  performed_step Call cost = called_step cost

  decoded_step : (instr : Option Instr) (bits : ℕ) → IsStep config core.number id (decoded code instr bits id core)
  unfolding decoded
  decoded_step None bits = trapped_step config id core s id.cycle (Illegal bits)
  decoded_step (Some instr) bits = performed_step (effect_of instr core.registers core.pc) (cost_of instr)

  fetched_step : (bits : Option ℕ) → IsStep config core.number id (fetched code bits id core)
  unfolding fetched
  fetched_step None = trapped_step config id core s id.cycle (Fetch core.pc)
  fetched_step (Some bits) = decoded_step (instr_of bits) bits

  abbrev waited : HartValue
  waited = record core { counts = record core.counts { waits = raised core.counts.waits } }

  waiting_step : (waiting : Bool) → IsStep config core.number id (cond waiting (waited, None) (fetched code (word_at code core.pc) id core))
  waiting_step true = quiet config id core s waited refl refl refl refl
  waiting_step false = fetched_step (word_at code core.pc)

  pub stepped_step : IsStep config core.number id (stepped code id core)
  unfolding stepped
  stepped_step = elim (cases_Bool (is_running core.ended)) [
    | inl running ↦ elim (cases_Bool (core.busy == 0)) [
      | inl free ↦ rw (running, free) (waiting_step core.waiting)
      | inr busy ↦ rw (running, busy) (quiet config id core s _ refl refl refl refl)
    ]
    | inr ended ↦ rw ended (stays config id core s)
  ]
