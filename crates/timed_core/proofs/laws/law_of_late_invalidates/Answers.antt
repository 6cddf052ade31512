use Rattle.timed_core.proofs.late.Moves.{all_late}
use Rattle.timed_core.proofs.laws.law_of_late_invalidates.Goals as goal

pub returns : goal.returns
returns c = all_late
