use Rattle.std.proofs.Common.{◌≡◌, ◌∙◌, ap, sym, subst, true}
use Rattle.std.specs.List.{AllByRecursion as Each}
use Rattle.slack_base.specs.Stamps.{is_above}
use Rattle.slot_calendar.specs.Slots.{clash}
use Rattle.slot_calendar.specs.Entries.{slots_of}
use Rattle.slot_calendar.proofs.Swaps.{next_clash}
use Rattle.slot_calendar.proofs.calendars.Calendar.clash.Goals as goal

pub returns-then-is_next-clause-value : goal.returns-then-is_next-clause-value
returns-then-is_next-clause-value c =
    let slots = c.args.self.now in
    let is : slots_of c.deref.result.now ≡ slots = ap slots_of c.deref.ensures.value ∙ c.self.view_is in
    sym (next_clash c.args.occupancy c.args.free (record { id = c.args.id; stamp = c.args.stamp }) slots
    (subst (Each (λ s. is_above c.args.id s.id ≡ true)) is (c.is_next.ensures.0 c.if-is_next.true)))

pub returns-clause-value : goal.returns-clause-value
returns-clause-value c =
    c.find.ensures.clash
    ∙ ap (clash c.args.occupancy c.args.free c.args.stamp c.args.id) (ap slots_of c.deref-2.ensures.value ∙ c.self.view_is)
