use Rattle.std.proofs.Common.{max, ap, sym, ◌∙◌}
use Rattle.slot_calendar.proofs.Ends.{last_end_read}
use Rattle.slot_calendar.proofs.entries.last_end.Goals as goal

pub returns-in-Some : goal.returns-in-Some
returns-in-Some c =
    c.max.ensures
    ∙ ap (max c.args.free) c.end_of.ensures
    ∙ sym (last_end_read c.args.occupancy c.args.free c.args.entries.now c.in-Some.last.now c.requires c.in-Some.ensures.value)
