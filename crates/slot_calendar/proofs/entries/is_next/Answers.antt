use Rattle.std.proofs.Common.{◌≡◌, ◌∙◌, sym, true}
use Rattle.slack_base.specs.Stamps.{is_above}
use Rattle.slot_calendar.proofs.Points.{next_last, last_is}
use Rattle.slot_calendar.proofs.entries.is_next.Goals as goal

pub returns-in-Some : goal.returns-in-Some
returns-in-Some c = (
  λ h. next_last c.args.id c.args.entries.now c.in-Some.last.now c.requires c.in-Some.ensures.value (sym c.is_above.ensures ∙ h),
  λ all. c.is_above.ensures ∙ last_is (λ s. is_above c.args.id s.id ≡ true) c.args.entries.now c.in-Some.last.now c.in-Some.ensures.value all,
)
