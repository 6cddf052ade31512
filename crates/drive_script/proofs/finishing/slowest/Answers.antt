use Rattle.std.proofs.Common.{◌<◌, ◌≤◌, ◌+◌, ℕ, length, map, subst, sym, ap, arith, None, Some, nat_lt, cond, ◌∙◌}
use Rattle.drive_script.specs.Views.{lane_of}
use Rattle.drive_script.specs.Finishing.{open_clock}
use Rattle.drive_script.specs.Loops.{picked}
use Rattle.drive_script.specs.Worlds.{LaneValue}
use Rattle.drive_script.proofs.Picks.{IsBest, best_more, ends_none, ends_some, if_none, nat_order}
use Rattle.drive_script.proofs.Places.{stored_seen, stored_none}
use Rattle.drive_script.proofs.finishing.slowest.Goals as goal

pub loop-place-preserved : goal.loop-place-preserved
loop-place-preserved g c =
    let view = lane_of g.T.Target.values in
    let lanes = c.args.world.now.lanes in
    let i = c.loop-place.place in
    let within : i < length lanes.items = omega (arith, lanes.ok.0, c.len-place-end.ensures, c.loop-place-test.true) in
    let key = open_clock c.args.world.now.end (map view lanes.items) in
    subst (IsBest ℕ nat_lt key (i + 1)) (sym (c.lower-best.ensures ∙ ap (picked nat_lt c.loop-place.best i) c.open_clock.ensures))
    (best_more ℕ nat_lt nat_order key i _ c.loop-place.best
    (stored_seen view i lanes.items c.index.result.now within c.index.ensures (λ (lane : LaneValue g.T.Target.Inner). cond (nat_lt lane.clock c.args.world.now.end) (Some lane.clock) None) None)
    c.loop-place.invariant)

pub returns-in_err-place-clause-none : goal.returns-in_err-place-clause-none
returns-in_err-place-clause-none g c =
    let view = lane_of g.T.Target.values in
    let lanes = c.args.world.now.lanes in
    let key = open_clock c.args.world.now.end (map view lanes.items) in
    let end : length lanes.items ≤ c.loop-place.place = omega (arith, lanes.ok.0, c.len-place-end.ensures, c.loop-place-test.false) in
    if_none c.from_residual.result _
    (ends_none ℕ nat_lt nat_order key c.loop-place.place c.loop-place.best
    (λ j l. stored_none view j lanes.items (λ (lane : LaneValue g.T.Target.Inner). cond (nat_lt lane.clock c.args.world.now.end) (Some lane.clock) None) None (omega arith)) c.loop-place.invariant c.in_err-place.was)

pub returns-clause-some : goal.returns-clause-some
returns-clause-some g c =
    let view = lane_of g.T.Target.values in
    let lanes = c.args.world.now.lanes in
    let key = open_clock c.args.world.now.end (map view lanes.items) in
    let end : length lanes.items ≤ c.loop-place.place = omega (arith, lanes.ok.0, c.len-place-end.ensures, c.loop-place-test.false) in
    ends_some ℕ nat_lt nat_order key c.loop-place.place c.loop-place.best c.in_ok-place.place c.in_ok-place.field-0-1
    (λ j l. stored_none view j lanes.items (λ (lane : LaneValue g.T.Target.Inner). cond (nat_lt lane.clock c.args.world.now.end) (Some lane.clock) None) None (omega arith)) c.loop-place.invariant c.in_ok-place.was
