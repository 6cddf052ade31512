use Rattle.std.proofs.Common.{refl}
use Rattle.core_actor.specs.declared.actors.CoreActor.{CoreActor}
use Rattle.core_actor.proofs.Goes.{ready_passed}
use Rattle.core_actor.proofs.actors.CoreActor.exchange.Goals as goal

pub take_proper-requires-after_bounds : goal.take_proper-requires-after_bounds
take_proper-requires-after_bounds g c κs within =
    let t = c.args.target.now in
    let a : CoreActor g.row.C.Denot = c.args.self.now in
    ready_passed (g.T.Target.rules t) (g.T.Target.owns t) g.T.Target.values c.args.end a _ c.requires refl refl refl refl refl
    c.flush.ensures.sent c.in_ok-receive_shown.ensures.handed c.observe.ensures.clock c.observe.ensures.same
