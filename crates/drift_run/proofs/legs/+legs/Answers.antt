use Rattle.std.proofs.Common.{◌/◌, length}
use Rattle.std.proofs.lemmas.List.Elements.{All-take, All-drop}
use Rattle.core_actor.specs.Actors.{IsReady, Ran}
use Rattle.drift_run.proofs.Zips.{on_ok, both_ok, zip_one}
use Rattle.drift_run.proofs.legs.+legs.Goals as goal

pub legs-returns-then-actors-eq1 : goal.legs-returns-then-actors-eq1
legs-returns-then-actors-eq1 g t c =
    let x = c.args.target.now in
    on_ok c.leg.result
    (λ k. zip_one (Ran (g.T.Target.rules x) (g.T.Target.owns x) g.T.Target.values (record { may = g.G.Gate.may_hold c.args.gate.now; must = g.G.Gate.must_hold c.args.gate.now }) c.args.end) c.args.actors.now c.index-actors-0.result c.leg.new.self c.if-actors-eq1.true k)
    c.leg.ensures

pub legs-both-requires-clause-front : goal.legs-both-requires-clause-front
legs-both-requires-clause-front g t c κs within =
    let x = c.args.target.now in
    rw c.split_at_mut-front.ensures.front (All-take (IsReady (g.T.Target.rules x) (g.T.Target.owns x) g.T.Target.values c.args.end) (length c.args.actors.now / 2) c.args.actors.now c.requires)

pub legs-both-requires-clause-back : goal.legs-both-requires-clause-back
legs-both-requires-clause-back g t c κs within =
    let x = c.args.target.now in
    rw c.split_at_mut-front.ensures.back (All-drop (IsReady (g.T.Target.rules x) (g.T.Target.owns x) g.T.Target.values c.args.end) (length c.args.actors.now / 2) c.args.actors.now c.requires)

pub legs-returns : goal.legs-returns
legs-returns g t c = rw c.split_at_mut-front.ensures.value (both_ok _ c.both.result _ _ _ _ c.both.ensures.front c.both.ensures.back)
