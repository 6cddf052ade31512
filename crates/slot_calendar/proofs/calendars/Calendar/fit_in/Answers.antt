use Rattle.std.proofs.Common.{◌≡◌, ◌∙◌, max, ap, sym}
use Rattle.slot_calendar.specs.Slots.{fit, clash, grant_by, grant_in, last_end, with_slot}
use Rattle.slot_calendar.specs.Entries.{slots_of}
use Rattle.slot_calendar.proofs.calendars.Calendar.fit_in.Goals as goal
use Rattle.slot_calendar.proofs.calendars.Calendar.fit_in.Goals.{in-None, in-Some}

-- the slots before the ask
slots_are : (c : goal.In_ok-insert) → slots_of c.self.inside.entries.items ≡ c.args.self.now
slots_are c = c.self.view_is

-- the grant, by the clash that was found
by_clash : (c : goal.In_ok-insert) → grant_by c.find-opening.result.clash c.args.occupancy c.args.free c.args.stamp c.args.id c.args.self.now ≡ grant_in c.args.occupancy c.args.free c.args.stamp c.args.id c.args.self.now
by_clash c =
    ap (λ o. grant_by o c.args.occupancy c.args.free c.args.stamp c.args.id c.args.self.now)
    (c.find-opening.ensures.clash ∙ ap (λ entries. clash c.args.occupancy c.args.free c.args.stamp c.args.id (slots_of entries)) c.deref.ensures.value
    ∙ ap (clash c.args.occupancy c.args.free c.args.stamp c.args.id) (slots_are c))

grant_is : (c : goal.In_ok-insert) → c.match-opening.grant ≡ grant_in c.args.occupancy c.args.free c.args.stamp c.args.id c.args.self.now
grant_is c = elim c.match-opening.branch [
  | in-None w ↦
      w.grant-is ∙ c.find-opening.ensures.fit
      ∙ ap (λ entries. fit c.args.occupancy c.args.free c.args.stamp c.args.id (slots_of entries)) c.deref.ensures.value
      ∙ ap (fit c.args.occupancy c.args.free c.args.stamp c.args.id) (slots_are c)
      ∙ ap (λ o. grant_by o c.args.occupancy c.args.free c.args.stamp c.args.id c.args.self.now) (sym w.in-None.is)
      ∙ by_clash c
  | in-Some w ↦
      w.grant-is ∙ w.max-grant.ensures
      ∙ ap (max c.args.stamp) (w.last_end.ensures ∙ ap (λ entries. last_end c.args.occupancy c.args.free (slots_of entries)) w.deref-in-Some.ensures.value ∙ ap (last_end c.args.occupancy c.args.free) (slots_are c))
      ∙ ap (λ o. grant_by o c.args.occupancy c.args.free c.args.stamp c.args.id c.args.self.now) (sym w.in-Some.is)
      ∙ by_clash c
]

pub returns-clause-grant : goal.returns-clause-grant
returns-clause-grant c = grant_is c

pub returns-clause-slots : goal.returns-clause-slots
returns-clause-slots c =
    c.in_ok-insert.ensures.slots
    ∙ ap (with_slot (record { id = c.args.id; grant = c.match-opening.grant })) (slots_are c)
    ∙ ap (λ n. with_slot (record { id = c.args.id; grant = n }) c.args.self.now) (grant_is c)
