-- A leap is as many cycles.
use Rattle.std.specs.Prelude.{◌≡◌, ℕ, ◌+◌, ◌≤◌, List}
use Rattle.slack_base.specs.declared.bounds.TheConstants.{TOP}
use Rattle.slack_base.specs.declared.messages.Ask.{Ask}
use Rattle.target_law.specs.Cycles.{StateValue, lockstep}
use Rattle.target_law.specs.Proper.{IsProper}
use Rattle.target_law.specs.Rules.{Rules, Owns}
use Rattle.leap_run.specs.Leaps.{leapt, AreOfLeap}

module _ {Inner Chan : Type 0} (rules : Rules Inner Chan) (owns : Owns Inner Chan) where
  -- where no post of the cycles is due before they are over
  abbrev pub AllLeaps : Type 0
  AllLeaps =
      (k : ℕ) (s : StateValue Inner Chan) (asks : List Ask) → 1 ≤ k → IsProper rules owns s → s.clock + k ≤ TOP → AreOfLeap rules k s asks
      → leapt rules k asks s ≡ lockstep rules s k
