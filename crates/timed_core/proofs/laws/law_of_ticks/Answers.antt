use Rattle.timed_core.proofs.Lawful.{all_ticks}
use Rattle.timed_core.proofs.laws.law_of_ticks.Goals as goal

pub returns : goal.returns
returns c = all_ticks
