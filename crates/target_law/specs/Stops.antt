-- Where a run stops: at its limit, or at the first checkpoint at which all cores have ended.
use Rattle.std.specs.Prelude.{◌≡◌, ℕ, ◌+◌, ◌-◌, ◌<◌, ◌==◌, ◌||◌, Bool, IsTrue, IsFalse, min, zero, suc}
use Rattle.target_law.specs.Cycles.{StateValue, lockstep, all_ended}
use Rattle.target_law.specs.Rules.{Rules}

-- the clock after so many intervals from a clock, the last one cut to the limit
abbrev pub checkpoint : (interval limit from : ℕ) → ℕ → ℕ
checkpoint interval limit from zero = from
checkpoint interval limit from (suc i) = min (checkpoint interval limit from i + interval) limit

module _ {Inner Chan : Type 0} (rules : Rules Inner Chan) where
  -- a run that has come here by an interval stops here
  abbrev pub is_over : (limit : ℕ) → StateValue Inner Chan → Bool
  is_over limit s = (s.clock == limit) || all_ended rules s

  module _ (interval limit : ℕ) (s : StateValue Inner Chan) where
    -- a run from s stops after so many intervals: before the first where it begins at its limit
    abbrev pub is_over_after : ℕ → Bool
    is_over_after zero = s.clock == limit
    is_over_after (suc i) = is_over limit (lockstep rules s (checkpoint interval limit s.clock (suc i) - s.clock))

    -- a run from s stops at clock z, and not after fewer intervals
    pub record Stops (z : ℕ) : Type 0 where
      pub intervals : ℕ
      pub at : z ≡ checkpoint interval limit s.clock intervals
      pub over : IsTrue (is_over_after intervals)
      pub first : (i : ℕ) → i < intervals → IsFalse (is_over_after i)

  -- a run stops at one clock
  abbrev pub AllStopOnce : Type 0
  AllStopOnce =
      (interval limit : ℕ) (s : StateValue Inner Chan) (y z : ℕ) → Stops interval limit s y → Stops interval limit s z → y ≡ z
