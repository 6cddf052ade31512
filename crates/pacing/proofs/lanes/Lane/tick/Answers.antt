use Rattle.std.proofs.Common.{◌+◌, ◌-◌, refl, arith}
use Rattle.pacing.proofs.Stored.{ticked_through}
use Rattle.pacing.proofs.lanes.Lane.tick.Goals as goal

pub returns : goal.returns
returns g c =
    let view = g.T.Target.values.core in
    let taken = c.args.self.now.taken in
    ticked_through (g.T.Target.rules c.args.target.now) c.args.from (c.args.from + c.args.len - c.args.from) c.args.len (view c.args.self.now.core) (view c.advance_to.new.core) taken taken c.clear.new.self c.advance_to.new.asks
    (omega arith) refl c.in_ok-advance_to.ensures.core c.clear.ensures c.in_ok-advance_to.ensures.asks
