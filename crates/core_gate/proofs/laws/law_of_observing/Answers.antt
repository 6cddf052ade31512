use Rattle.core_gate.proofs.Lawful.{all_observe}
use Rattle.core_gate.proofs.laws.law_of_observing.Goals as goal

pub returns : goal.returns
returns c = all_observe
