use Rattle.std.proofs.Common.{◌<◌, ◌≤◌, ◌+◌, ◌∙◌, length, subst, sym, ap, arith, None}
use Rattle.slack_base.specs.declared.stamps.Id.{Id}
use Rattle.drive_script.specs.Finishing.{is_before}
use Rattle.drive_script.specs.Loops.{picked}
use Rattle.drive_script.proofs.Picks.{IsBest, best_more, ends_none, ends_some, if_none, id_order}
use Rattle.drive_script.proofs.Places.{stored_seen, stored_none}
use Rattle.manager.specs.declared.managers.Desk.{Desk}
use Rattle.manager.specs.Queues.{queues_of, next_id, servable_id}
use Rattle.manager.proofs.picking.next_place.Goals as goal

pub loop-place-preserved : goal.loop-place-preserved
loop-place-preserved g c =
    let rules = g.T.Target.rules c.args.target.now in
    let desks = c.args.desks.now in
    let i = c.loop-place.place in
    let within : i < length desks.items = omega (arith, desks.ok.0, c.len-place-end.ensures, c.loop-place-test.true) in
    let key = next_id rules (queues_of desks.items) in
    subst (IsBest Id is_before key (i + 1)) (sym (c.earlier-best.ensures ∙ ap (picked is_before c.loop-place.best i) c.servable_id.ensures))
    (best_more Id is_before id_order key i _ c.loop-place.best
    (stored_seen (λ (desk : Desk). desk.pending.items) i desks.items c.index.result.now within c.index.ensures (servable_id rules i) None)
    c.loop-place.invariant)

pub returns-in_err-place-clause-none : goal.returns-in_err-place-clause-none
returns-in_err-place-clause-none g c =
    let rules = g.T.Target.rules c.args.target.now in
    let desks = c.args.desks.now in
    let key = next_id rules (queues_of desks.items) in
    let end : length desks.items ≤ c.loop-place.place = omega (arith, desks.ok.0, c.len-place-end.ensures, c.loop-place-test.false) in
    if_none c.from_residual.result _
    (ends_none Id is_before id_order key c.loop-place.place c.loop-place.best
    (λ j l. stored_none (λ (desk : Desk). desk.pending.items) j desks.items (servable_id rules j) None (omega arith)) c.loop-place.invariant c.in_err-place.was)

pub returns-clause-some : goal.returns-clause-some
returns-clause-some g c =
    let rules = g.T.Target.rules c.args.target.now in
    let desks = c.args.desks.now in
    let key = next_id rules (queues_of desks.items) in
    let end : length desks.items ≤ c.loop-place.place = omega (arith, desks.ok.0, c.len-place-end.ensures, c.loop-place-test.false) in
    ends_some Id is_before id_order key c.loop-place.place c.loop-place.best c.in_ok-place.place c.in_ok-place.field-0-1
    (λ j l. stored_none (λ (desk : Desk). desk.pending.items) j desks.items (servable_id rules j) None (omega arith)) c.loop-place.invariant c.in_ok-place.was
