use Rattle.slot_calendar.proofs.Commuting.{all_commute}
use Rattle.slot_calendar.proofs.laws.law_of_late_asks.Goals as goal

pub returns : goal.returns
returns c = all_commute
