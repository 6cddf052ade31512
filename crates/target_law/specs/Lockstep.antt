-- What lockstep keeps, and the order of its asks.
use Rattle.std.specs.Prelude.{ℕ, ◌+◌, ◌<◌, ◌≤◌}
use Rattle.slack_base.specs.declared.bounds.TheConstants.{TOP}
use Rattle.target_law.specs.Cycles.{StateValue, asks_of, asks, cycle}
use Rattle.target_law.specs.Proper.{IsProper, IsPunctual}
use Rattle.target_law.specs.Rules.{Rules, Owns}
use Rattle.target_law.specs.Served.{AreRising}

module _ {Inner Chan : Type 0} (rules : Rules Inner Chan) (owns : Owns Inner Chan) where
  -- what is true after one cycle
  pub record IsKept (s : StateValue Inner Chan) : Type 0 where
    pub proper : IsProper rules owns (cycle rules s)
    pub punctual : IsPunctual (cycle rules s)

  abbrev pub AllCycles : Type 0
  AllCycles = (s : StateValue Inner Chan) → IsProper rules owns s → s.clock < TOP → IsKept s

  -- the asks of the next cycle
  abbrev pub AllCyclesRise : Type 0
  AllCyclesRise = (s : StateValue Inner Chan) → IsProper rules owns s → AreRising (asks_of rules s.clock s.cores)

  -- the asks of k cycles
  abbrev pub AllAsksRise : Type 0
  AllAsksRise = (s : StateValue Inner Chan) (k : ℕ) → IsProper rules owns s → s.clock + k ≤ TOP → AreRising (asks rules s k)
