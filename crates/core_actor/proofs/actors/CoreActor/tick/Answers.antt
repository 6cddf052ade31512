use Rattle.std.proofs.Common.{◌∙◌, ◌++◌, ap, refl}
use Rattle.stamp_queue.specs.Rings.{all_sent}
use Rattle.target_law.specs.Cycles.{tick_of}
use Rattle.core_actor.specs.declared.actors.CoreActor.{CoreActor}
use Rattle.core_actor.proofs.Goes.{went_ticked}
use Rattle.core_actor.proofs.Steps.{ticked_of}
use Rattle.core_actor.proofs.actors.CoreActor.tick.Goals as goal

pub returns-clause-went : goal.returns-clause-went
returns-clause-went g c =
    let t = c.args.target.now in
    let rules = g.T.Target.rules t in
    let values = g.T.Target.values in
    let a : CoreActor g.row.C.Denot = c.args.self.now in
    let now = ticked_of rules values c.args.end a.lane c.tick.new.self c.requires.open c.in_ok-tick.ensures in
    let sends = c.in_ok-send_all.ensures in
    went_ticked rules (g.T.Target.owns t) values c.args.end (g.met.T.Target.laws t) a _ c.requires.ready c.requires.open now.core now.clock sends.none now.posts now.taken refl
    (sends.sent ∙ ap (λ asks. all_sent a.asks ++ asks) (now.asks ∙ ap (λ asks. asks ++ (tick_of rules a.lane.clock (values.core a.lane.core)).1) c.requires.ready.no_asks))
    refl c.store_clock.ensures.clock c.store_clock.ensures.same sends.same c.store_clock.ensures.seen
