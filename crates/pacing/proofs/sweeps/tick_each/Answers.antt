use Rattle.std.proofs.Common.{◌<◌, ◌≤◌, ◌∙◌, List, length, map, arith, rules}
use Rattle.std.proofs.lemmas.List.{length-map}
use Rattle.std.proofs.lemmas.List.Elements.{recursion_from_All}
use Rattle.slack_base.specs.declared.messages.Ask.{Ask}
use Rattle.target_law.specs.Proper.{IsCore}
use Rattle.target_law.proofs.Loops.{next_is, viewed_more}
use Rattle.drive_script.proofs.Places.{all_changed}
use Rattle.pacing.specs.Pieces.{LaneValue, lane_ticked}
use Rattle.pacing.specs.Views.{ticked_of}
use Rattle.pacing.proofs.Stored.{numbered_views, map-seen}
use Rattle.pacing.proofs.sweeps.tick_each.Goals as goal

pub tick-requires-clause-core : goal.tick-requires-clause-core
tick-requires-clause-core g c κs bounds =
    let within : c.loop-lane.lane-index < length c.args.lanes.now = search rules in
    let rs = g.T.Target.rules c.args.target.now in
    let owns = g.T.Target.owns c.args.target.now in
    let view = ticked_of g.T.Target.values in
    let Is = λ (seen : LaneValue g.T.Target.Inner × List Ask). IsCore rs owns seen.0.core in
    next_is view (λ seen. lane_ticked rs c.args.from c.args.len seen.0) c.args.lanes.now c.loop-lane.lanes c.loop-lane.lane-index c.lane-item.result within c.lane-item.is
    c.loop-lane.invariant (λ place seen. Is seen) (numbered_views view Is 0 c.args.lanes.now (recursion_from_All _ c.args.lanes.now c.requires.cores))

pub loop-lane-preserved : goal.loop-lane-preserved
loop-lane-preserved g c =
    let within : c.loop-lane.lane-index < length c.args.lanes.now = search rules in
    let rs = g.T.Target.rules c.args.target.now in
    viewed_more (ticked_of g.T.Target.values) (λ seen. lane_ticked rs c.args.from c.args.len seen.0) c.args.lanes.now c.loop-lane.lanes c.loop-lane.lane-index c.lane-item.result within c.lane-item.is
    c.loop-lane.invariant c.tick.new.self c.in_ok-tick.ensures

pub returns : goal.returns
returns g c =
    let rs = g.T.Target.rules c.args.target.now in
    let view = ticked_of g.T.Target.values in
    let end : length (map view c.args.lanes.now) ≤ c.loop-lane.lane-index = omega (arith, length-map c.args.lanes.now view, c.loop-lane-test.false) in
    c.loop-lane.invariant
    ∙ all_changed (λ seen. lane_ticked rs c.args.from c.args.len seen.0) c.loop-lane.lane-index (map view c.args.lanes.now) end
    ∙ map-seen (lane_ticked rs c.args.from c.args.len) view (λ seen. seen.0) c.args.lanes.now
