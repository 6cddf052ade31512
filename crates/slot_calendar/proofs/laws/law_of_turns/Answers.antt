use Rattle.slot_calendar.proofs.Turns.{all_in_turn}
use Rattle.slot_calendar.proofs.laws.law_of_turns.Goals as goal

pub returns : goal.returns
returns c = all_in_turn
