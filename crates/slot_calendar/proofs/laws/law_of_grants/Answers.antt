use Rattle.slot_calendar.proofs.Turns.{all_grants}
use Rattle.slot_calendar.proofs.laws.law_of_grants.Goals as goal

pub returns : goal.returns
returns c = all_grants
