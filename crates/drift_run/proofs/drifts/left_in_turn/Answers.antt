use Rattle.io_edge.specs.Holds.{Holds}
use Rattle.drift_run.proofs.Sighted.{ready_in_sight, left_in_sight}
use Rattle.drift_run.proofs.drifts.left_in_turn.Goals as goal

pub run_in_turn-requires-after_bounds : goal.run_in_turn-requires-after_bounds
run_in_turn-requires-after_bounds g c κs bounds =
    let s = c.args.state in
    let rig = c.in_ok-rig.rig in
    ready_in_sight g.T.Target.rules g.T.Target.owns g.T.Target.values c.of-sight.result.target.now c.args.target.now c.of-sight.ensures s.clock s.cores s.chans c.args.pace.now.slack c.args.len rig.manager rig.actors.items c.requires.top c.in_ok-rig.ensures

pub returns : goal.returns
returns g c =
    let s = c.args.state in
    let rig = c.in_ok-rig.rig in
    let left = c.in_ok-left in
    let holds : Holds = record { may = g.G.Gate.may_hold c.args.gate.now; must = g.G.Gate.must_hold c.args.gate.now } in
    left_in_sight g.T.Target.rules g.T.Target.owns g.T.Target.values c.of-sight.result.target.now c.args.target.now c.of-sight.ensures s.clock s.cores s.chans c.args.pace.now.slack c.args.len rig.manager rig.actors.items c.requires.top c.in_ok-rig.ensures
    holds left.left.manager left.left.actors.items c.requires.proper left.ensures.manager left.ensures.actors
