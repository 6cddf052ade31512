use Rattle.std.proofs.Common.{◌≡◌, ◌∙◌, max, ap, sym, subst, true}
use Rattle.std.specs.List.{AllByRecursion as Each}
use Rattle.slack_base.specs.Stamps.{is_above}
use Rattle.slot_calendar.specs.Slots.{grant_in, last_end, with_slot}
use Rattle.slot_calendar.specs.Entries.{slots_of}
use Rattle.slot_calendar.proofs.Points.{place_next}
use Rattle.slot_calendar.proofs.Swaps.{next_grant}
use Rattle.slot_calendar.proofs.calendars.Calendar.append.Goals as goal

pub append-requires-clause-place : goal.append-requires-clause-place
append-requires-clause-place c =
    place_next c.args.id c.self.inside.entries.items (subst (Each (λ s. is_above c.args.id s.id ≡ true)) (sym c.self.view_is) c.requires)

grant_is : (c : goal.In_ok-append) → c.max-grant.result ≡ grant_in c.args.occupancy c.args.free c.args.stamp c.args.id c.args.self.now
grant_is c =
    c.max-grant.ensures
    ∙ ap (max c.args.stamp) (c.last_end.ensures ∙ ap (last_end c.args.occupancy c.args.free) (ap slots_of c.deref.ensures.value ∙ c.self.view_is))
    ∙ sym (next_grant c.args.occupancy c.args.free (record { id = c.args.id; stamp = c.args.stamp }) c.args.self.now c.requires)

pub returns-clause-grant : goal.returns-clause-grant
returns-clause-grant c = grant_is c

pub returns-clause-slots : goal.returns-clause-slots
returns-clause-slots c =
    c.in_ok-append.ensures.slots
    ∙ ap (with_slot (record { id = c.args.id; grant = c.max-grant.result })) c.self.view_is
    ∙ ap (λ n. with_slot (record { id = c.args.id; grant = n }) c.args.self.now) (grant_is c)
