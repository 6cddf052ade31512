use Rattle.timed_core.proofs.Lawful.{all_starts}
use Rattle.timed_core.proofs.laws.law_of_starts.Goals as goal

pub returns : goal.returns
returns c = all_starts
