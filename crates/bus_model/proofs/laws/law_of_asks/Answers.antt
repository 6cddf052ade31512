use Rattle.bus_model.proofs.Lawful.{may-serve}
use Rattle.bus_model.proofs.laws.law_of_asks.Goals as goal

pub returns : goal.returns
returns c = may-serve
