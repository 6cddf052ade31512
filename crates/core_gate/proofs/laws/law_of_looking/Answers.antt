use Rattle.core_gate.proofs.Lawful.{all_look}
use Rattle.core_gate.proofs.laws.law_of_looking.Goals as goal

pub returns : goal.returns
returns c = all_look
