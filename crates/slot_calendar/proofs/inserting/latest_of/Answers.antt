use Rattle.slot_calendar.proofs.Ends.{latest_of_last}
use Rattle.slot_calendar.proofs.inserting.latest_of.Goals as goal

pub returns-in-Some : goal.returns-in-Some
returns-in-Some c = latest_of_last 0 c.args.entries.now c.in-Some.last.now c.in-Some.ensures.value
