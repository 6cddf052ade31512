use Rattle.std.proofs.Common.{◌≤◌, sym, subst}
use Rattle.slack_base.specs.declared.bounds.TheConstants.{TOP}
use Rattle.slot_calendar.specs.Entries.{slots_of}
use Rattle.slot_calendar.proofs.Ends.{last_end_top}
use Rattle.slot_calendar.proofs.calendars.Calendar.close.Goals as goal

pub returns-clause-top : goal.returns-clause-top
returns-clause-top c = subst (λ n. n ≤ TOP) (sym c.last_end-end.ensures) (last_end_top c.args.occupancy c.args.free (slots_of c.deref.result.now) c.requires)
