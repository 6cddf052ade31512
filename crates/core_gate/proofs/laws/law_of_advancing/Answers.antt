use Rattle.core_gate.proofs.Lawful.{all_advance}
use Rattle.core_gate.proofs.laws.law_of_advancing.Goals as goal

pub returns : goal.returns
returns c = all_advance
