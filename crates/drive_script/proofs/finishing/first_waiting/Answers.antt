use Rattle.std.proofs.Common.{◌≡◌, ◌<◌, ◌≤◌, length, map, sym, arith, None, ◌∙◌, rules}
use Rattle.drive_script.specs.Views.{lane_of}
use Rattle.drive_script.specs.Finishing.{oldest_post}
use Rattle.drive_script.specs.Worlds.{LaneValue, oldest}
use Rattle.violation_watch.proofs.Lists.{less_or}
use Rattle.drive_script.proofs.Picks.{none_more}
use Rattle.drive_script.proofs.Places.{stored_seen, stored_none}
use Rattle.drive_script.proofs.finishing.first_waiting.Goals as goal

pub returns-in-Some-clause-some : goal.returns-in-Some-clause-some
returns-in-Some-clause-some g c =
    let view = lane_of g.T.Target.values in
    let lanes = c.args.world.now.lanes in
    let i = c.loop-place.place in
    let within : i < length lanes.items = omega (arith, lanes.ok.0, c.len-place-end.ensures, c.loop-place-test.true) in (
      c.in-Some._post,
      record {
        here =
            stored_seen view i lanes.items c.index.result.now within c.index.ensures (λ (lane : LaneValue g.T.Target.Inner). oldest lane.posts) None
            ∙ sym c.oldest_waiting.ensures ∙ c.in-Some.is;
        first = c.loop-place.invariant;
      },
    )

pub loop-place-preserved : goal.loop-place-preserved
loop-place-preserved g c =
    let view = lane_of g.T.Target.values in
    let lanes = c.args.world.now.lanes in
    let i = c.loop-place.place in
    let within : i < length lanes.items = omega (arith, lanes.ok.0, c.len-place-end.ensures, c.loop-place-test.true) in
    let none : c.oldest_waiting.result ≡ None = search rules in
    none_more (oldest_post (map view lanes.items)) i c.loop-place.invariant
    (stored_seen view i lanes.items c.index.result.now within c.index.ensures (λ (lane : LaneValue g.T.Target.Inner). oldest lane.posts) None ∙ sym c.oldest_waiting.ensures ∙ none)

pub returns-clause-none : goal.returns-clause-none
returns-clause-none g c =
    let view = lane_of g.T.Target.values in
    let lanes = c.args.world.now.lanes in
    let end : length lanes.items ≤ c.loop-place.place = omega (arith, lanes.ok.0, c.len-place-end.ensures, c.loop-place-test.false) in
    λ j. less_or j c.loop-place.place (c.loop-place.invariant j) (λ l. stored_none view j lanes.items (λ (lane : LaneValue g.T.Target.Inner). oldest lane.posts) None (omega arith))
