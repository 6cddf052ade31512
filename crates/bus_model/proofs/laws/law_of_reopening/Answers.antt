use Rattle.bus_model.proofs.ClosingLaws.{reopens}
use Rattle.bus_model.proofs.laws.law_of_reopening.Goals as goal

pub returns : goal.returns
returns c = reopens
