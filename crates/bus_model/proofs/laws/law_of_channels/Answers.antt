use Rattle.bus_model.proofs.Lawful.{channels-lawful}
use Rattle.bus_model.proofs.laws.law_of_channels.Goals as goal

pub returns : goal.returns
returns c = channels-lawful
