use Rattle.slot_calendar.proofs.Swaps.{all_swap}
use Rattle.slot_calendar.proofs.laws.law_of_neighbours.Goals as goal

pub returns : goal.returns
returns c = all_swap
