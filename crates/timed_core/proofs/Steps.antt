-- What a core keeps, and what it asks for, in one step: a post or an instruction.
use Rattle.std.proofs.Common.{◌≡◌, ◌∙◌, ℕ, ◌+◌, ◌%◌, ◌==◌, List, Option, None, length, length-set, slice_index, get_or-set_other, refl, sym, ap, inl, inr}
use Rattle.std.specs.Option.{IfSome}
use Rattle.std.proofs.lemmas.Bool.{cases_Bool, eqb-false}
use Rattle.slack_base.specs.Numbers.{lines_of}
use Rattle.slack_base.specs.declared.configs.RawConfig.{RawConfig}
use Rattle.slack_base.specs.declared.stamps.Id.{Id}
use Rattle.slack_base.specs.declared.messages.Ask.{Ask}
use Rattle.slack_base.specs.declared.cores.Trap.{Trap}
use Rattle.slack_base.specs.Messages.{id_of, line_of}
use Rattle.timed_core.specs.Cores.{HartValue, with_register, goes_on, gives, trapped}
use Rattle.timed_core.specs.Laws.{IsSoundHart, IsLineBelow}
use Rattle.timed_core.specs.Touches.{touched_at}

-- an ask has this id, and a line of memory if it has one
abbrev pub IsAskBelow : (lines : ℕ) → Id → Ask → Type 0
IsAskBelow lines id ask = (id_of ask ≡ id) × IsLineBelow lines (line_of ask)

-- a step leaves a sound hart of the same number, and asks with this id for lines of memory alone
pub record IsStep (config : RawConfig) (number : ℕ) (id : Id) (out : HartValue × Option Ask) : Type 0 where
  pub sound : IsSoundHart config out.0
  pub same : out.0.number ≡ number
  pub ask : IfSome out.1 (IsAskBelow (lines_of config) id)

pub zero_kept : (x : List ℕ) (rd value : ℕ) → slice_index x 0 ≡ 0 → slice_index (with_register x rd value) 0 ≡ 0
zero_kept x rd value h = elim (cases_Bool (rd == 0)) [
  | inl none ↦ rw none h
  | inr other ↦ rw other (get_or-set_other x rd 0 value 0 (λ same. eqb-false rd 0 other (sym same)) ∙ h)
]

-- a touched hart is sound
pub touched_sound : (config : RawConfig) (t line : ℕ) (core : HartValue) → IsSoundHart config core → IsSoundHart config (touched_at t line core)
touched_sound config t line core s = record {
  number = s.number;
  zero = s.zero;
  cache = s.cache;
  touches = length-set core.touches (line % length core.touches) (t + 1) ∙ s.touches;
}

module _ (config : RawConfig) (id : Id) (core : HartValue) (s : IsSoundHart config core) where
  -- a step that leaves x0, the cache and its touches, and asks for nothing
  pub quiet : (after : HartValue) → after.registers ≡ core.registers → after.cache ≡ core.cache → after.touches ≡ core.touches → after.number ≡ core.number → IsStep config core.number id (after, None)
  quiet after registers cache touches number = record {
    sound = record {
      number = rw number s.number;
      zero = ap (λ x. slice_index x 0) registers ∙ s.zero;
      cache = rw cache s.cache;
      touches = rw touches s.touches;
    };
    same = number;
    ask = tt;
  }

  pub stays : IsStep config core.number id (core, None)
  stays = quiet core refl refl refl refl

  pub gives_step : (rd value cost : ℕ) → IsStep config core.number id (gives rd value cost core, None)
  gives_step rd value cost = record { sound = record { number = s.number; zero = zero_kept core.registers rd value s.zero; cache = s.cache; touches = s.touches }; same = refl; ask = tt }

  pub goes_on_step : (cost : ℕ) → IsStep config core.number id (goes_on cost core, None)
  goes_on_step cost = quiet (goes_on cost core) refl refl refl refl

  pub trapped_step : (t : ℕ) (trap : Trap) → IsStep config core.number id (trapped core t trap, None)
  trapped_step t trap = quiet (trapped core t trap) refl refl refl refl
