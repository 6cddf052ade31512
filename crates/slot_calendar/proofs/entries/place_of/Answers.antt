use Rattle.std.proofs.Common.{sym, ◌∙◌}
use Rattle.slot_calendar.proofs.Points.{place_last}
use Rattle.slot_calendar.proofs.entries.place_of.Goals as goal

pub returns-else-is_above : goal.returns-else-is_above
returns-else-is_above c = place_last c.args.id c.args.entries.now c.in-Some.last.now c.requires c.in-Some.ensures.value (sym c.is_above.ensures ∙ c.if-is_above.false)
