-- No post is late after cycles of lockstep, where none was before.
use Rattle.std.proofs.Common.{ℕ, ◌+◌, ◌≤◌, zero, suc, arith}
use Rattle.slack_base.specs.declared.bounds.TheConstants.{TOP}
use Rattle.target_law.specs.Cycles.{StateValue, lockstep}
use Rattle.target_law.specs.Laws.{Laws}
use Rattle.target_law.specs.Proper.{IsProper, IsPunctual}
use Rattle.target_law.specs.Rules.{Rules, Owns}
use Rattle.target_law.proofs.Kept.{cycle_proper, cycle_punctual}
use Rattle.target_law.proofs.Lockstep.{clock-lockstep}

module _ {Inner Chan : Type 0} (rules : Rules Inner Chan) (owns : Owns Inner Chan) (laws : Laws rules owns) where
  pub proper_after : (k : ℕ) (s : StateValue Inner Chan) → IsProper rules owns s → s.clock + k ≤ TOP → IsProper rules owns (lockstep rules s k)
  unfolding lockstep
  proper_after zero s is low = is
  proper_after (suc k) s is low =
      let clock = clock-lockstep rules s k in
      cycle_proper rules owns laws (lockstep rules s k) (proper_after k s is (omega arith)) (omega arith)

  pub punctual_after : (k : ℕ) (s : StateValue Inner Chan) → IsProper rules owns s → IsPunctual s → s.clock + k ≤ TOP → IsPunctual (lockstep rules s k)
  unfolding lockstep
  punctual_after zero s is punctual low = punctual
  punctual_after (suc k) s is punctual low = cycle_punctual rules owns laws (lockstep rules s k) (proper_after k s is (omega arith))
