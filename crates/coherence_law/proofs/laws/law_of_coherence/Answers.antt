use Rattle.coherence_law.proofs.Starting.{all_coherent, no_breaks, no_breaks_of}
use Rattle.coherence_law.proofs.laws.law_of_coherence.Goals as goal

pub returns : goal.returns
returns c = record { coherent = all_coherent; unbroken = no_breaks; configured = no_breaks_of }
