use Rattle.std.proofs.Common.{◌<◌, ◌≤◌, length, rules, subst}
use Rattle.core_actor.specs.Actors.{IsReady, Ran}
use Rattle.target_law.proofs.OneByOne.{at_first, changed_next}
use Rattle.drift_run.proofs.Zips.{all_changed, next_of_all}
use Rattle.drift_run.proofs.legs.legs_in_turn.Goals as goal

pub loop-actor-init : goal.loop-actor-init
loop-actor-init g c =
    let t = c.args.target.now in
    at_first (Ran (g.T.Target.rules t) (g.T.Target.owns t) g.T.Target.values (record { may = g.G.Gate.may_hold c.args.gate.now; must = g.G.Gate.must_hold c.args.gate.now }) c.args.end) c.args.actors.now

pub leg-requires-after_bounds : goal.leg-requires-after_bounds
leg-requires-after_bounds g c κs bounds =
    let t = c.args.target.now in
    let within : c.loop-actor.actor-index < length c.args.actors.now = search rules in
    subst (IsReady (g.T.Target.rules t) (g.T.Target.owns t) g.T.Target.values c.args.end) c.actor-item.is
    (next_of_all (Ran (g.T.Target.rules t) (g.T.Target.owns t) g.T.Target.values (record { may = g.G.Gate.may_hold c.args.gate.now; must = g.G.Gate.must_hold c.args.gate.now }) c.args.end)
    (IsReady (g.T.Target.rules t) (g.T.Target.owns t) g.T.Target.values c.args.end) c.loop-actor.actor-index c.args.actors.now c.loop-actor.actors c.actor-item.result within c.loop-actor.invariant c.actor-item.is c.requires.actors)

pub loop-actor-preserved : goal.loop-actor-preserved
loop-actor-preserved g c =
    let t = c.args.target.now in
    let within : c.loop-actor.actor-index < length c.args.actors.now = search rules in
    changed_next (Ran (g.T.Target.rules t) (g.T.Target.owns t) g.T.Target.values (record { may = g.G.Gate.may_hold c.args.gate.now; must = g.G.Gate.must_hold c.args.gate.now }) c.args.end)
    c.loop-actor.actor-index c.args.actors.now c.loop-actor.actors c.actor-item.result c.leg.new.self within c.loop-actor.invariant c.in_ok-leg.ensures

pub returns-clause-actors : goal.returns-clause-actors
returns-clause-actors g c =
    let t = c.args.target.now in
    let done : length c.args.actors.now ≤ c.loop-actor.actor-index = search rules in
    let all = all_changed (Ran (g.T.Target.rules t) (g.T.Target.owns t) g.T.Target.values (record { may = g.G.Gate.may_hold c.args.gate.now; must = g.G.Gate.must_hold c.args.gate.now }) c.args.end)
    c.loop-actor.actor-index c.args.actors.now c.loop-actor.actors done c.loop-actor.invariant in
    search (rules, all)
