-- Where a run that goes as lockstep does ends.
use Rattle.std.specs.Prelude.{ℕ}
use Rattle.target_law.specs.Cycles.{StateValue, IsLockstepOf}
use Rattle.target_law.specs.Rules.{Rules}
use Rattle.target_law.specs.Stops.{Stops}

-- the state is lockstep's, at the checkpoint where a run cycle by cycle stops
pub record IsLockstepAt {Inner Chan : Type 0} (rules : Rules Inner Chan) (interval limit : ℕ) (s e : StateValue Inner Chan) : Type 0 where
  pub state : IsLockstepOf rules s e
  pub stops : Stops rules interval limit s e.clock
