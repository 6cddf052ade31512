use Rattle.slot_calendar.proofs.Swaps.{all_reopen}
use Rattle.slot_calendar.proofs.laws.law_of_closing.Goals as goal

pub returns : goal.returns
returns c = all_reopen
