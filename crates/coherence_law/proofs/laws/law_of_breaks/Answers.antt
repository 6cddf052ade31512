use Rattle.coherence_law.proofs.Listed.{all_listed}
use Rattle.coherence_law.proofs.Testing.{all_tests}
use Rattle.coherence_law.proofs.laws.law_of_breaks.Goals as goal

pub returns : goal.returns
returns c = record { test = all_tests; listed = all_listed }
