use Rattle.bus_model.proofs.Swaps.{swaps}
use Rattle.bus_model.proofs.laws.law_of_neighbours.Goals as goal

pub returns : goal.returns
returns c = swaps
