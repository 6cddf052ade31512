use Rattle.core_gate.proofs.Lawful.{all_raise}
use Rattle.core_gate.proofs.laws.law_of_raising.Goals as goal

pub returns : goal.returns
returns c = all_raise
