use Rattle.std.proofs.Common.{◌≡◌, ◌≤◌, sym, subst}
use Rattle.std.proofs.lemmas.Result.{IfOk-weaker}
use Rattle.slack_base.specs.declared.bounds.TheConstants.{TOP}
use Rattle.slot_calendar.specs.Slots.{grant_in}
use Rattle.slot_calendar.proofs.Ends.{grant_top}
use Rattle.slot_calendar.proofs.calendars.Calendar.place.Goals as goal

pub returns-then-is_next-clause-top : goal.returns-then-is_next-clause-top
returns-then-is_next-clause-top c =
    let granted = grant_in c.args.occupancy c.args.free c.args.stamp c.args.id c.args.self.now in
    IfOk-weaker c.append.result (λ grant. grant ≡ granted) (λ grant. grant ≤ TOP)
    (λ grant is. subst (λ n. n ≤ TOP) (sym is) (grant_top c.args.occupancy c.args.free c.args.stamp c.args.id c.args.self.now c.requires.stamp c.requires.free))
    c.append.ensures.grant

pub returns-else-is_next-clause-top : goal.returns-else-is_next-clause-top
returns-else-is_next-clause-top c =
    let granted = grant_in c.args.occupancy c.args.free c.args.stamp c.args.id c.args.self.now in
    IfOk-weaker c.fit_in.result (λ grant. grant ≡ granted) (λ grant. grant ≤ TOP)
    (λ grant is. subst (λ n. n ≤ TOP) (sym is) (grant_top c.args.occupancy c.args.free c.args.stamp c.args.id c.args.self.now c.requires.stamp c.requires.free))
    c.fit_in.ensures.grant
