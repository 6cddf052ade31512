use Rattle.core_gate.proofs.Lawful.{all_open}
use Rattle.core_gate.proofs.laws.law_of_openings.Goals as goal

pub returns : goal.returns
returns c = all_open
