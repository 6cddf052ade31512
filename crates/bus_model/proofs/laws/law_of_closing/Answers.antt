use Rattle.bus_model.proofs.ClosingLaws.{closes}
use Rattle.bus_model.proofs.laws.law_of_closing.Goals as goal

pub returns : goal.returns
returns c = closes
