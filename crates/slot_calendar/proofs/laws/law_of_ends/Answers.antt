use Rattle.slot_calendar.proofs.Turns.{all_ends}
use Rattle.slot_calendar.proofs.laws.law_of_ends.Goals as goal

pub returns : goal.returns
returns c = all_ends
