use Rattle.timed_core.proofs.Touching.{what_touches}
use Rattle.timed_core.proofs.laws.law_of_touches.Goals as goal

pub returns : goal.returns
returns c = what_touches
