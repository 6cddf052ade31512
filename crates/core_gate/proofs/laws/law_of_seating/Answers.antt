use Rattle.core_gate.proofs.Lawful.{all_seat}
use Rattle.core_gate.proofs.laws.law_of_seating.Goals as goal

pub returns : goal.returns
returns c = all_seat
