use Rattle.bus_model.proofs.ClosingLaws.{stays_last}
use Rattle.bus_model.proofs.laws.law_of_the_last_ask.Goals as goal

pub returns : goal.returns
returns c = stays_last
