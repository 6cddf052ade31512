use Rattle.timed_core.proofs.Lawful.{all_puts}
use Rattle.timed_core.proofs.laws.law_of_puts.Goals as goal

pub returns : goal.returns
returns c = all_puts
