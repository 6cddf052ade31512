use Rattle.std.proofs.Common.{refl}
use Rattle.manager.proofs.Desks.{flushed_received}
use Rattle.manager.proofs.Leading.{led_received, led_raised, led_then, raised_overseer}
use Rattle.manager.proofs.managers.Manager.turn.Goals as goal

pub serve_all-requires-after_bounds : goal.serve_all-requires-after_bounds
serve_all-requires-after_bounds g c κs bounds =
    let t = c.args.target.now in
    let a = c.args.self.now in
    let received = flushed_received a.desks.items c.flush_all.new.desks.items c.receive_all.new.desks.items c.flush_all.ensures.desks c.in_ok-receive_all.ensures in
    (led_received (g.T.Target.rules t) (g.T.Target.owns t) (g.met.T.Target.laws t) g.T.Target.values a _ c.requires.ready refl refl refl refl received c.look_all.ensures.same c.look_all.ensures.global).ready

pub returns-clause-led : goal.returns-clause-led
returns-clause-led g c =
    let t = c.args.target.now in
    let rules = g.T.Target.rules t in
    let owns = g.T.Target.owns t in
    let laws = g.met.T.Target.laws t in
    let values = g.T.Target.values in
    let a = c.args.self.now in
    let s = c.serve_all.new.self in
    let received = flushed_received a.desks.items c.flush_all.new.desks.items c.receive_all.new.desks.items c.flush_all.ensures.desks c.in_ok-receive_all.ensures in
    let first = led_received rules owns laws values a _ c.requires.ready refl refl refl refl received c.look_all.ensures.same c.look_all.ensures.global in
    let second = led_then rules owns laws values a _ s first c.in_ok-serve_all.ensures.led in
    led_then rules owns laws values a s _ second (led_raised rules owns laws values s _ second.ready refl refl refl refl refl c.raise.ensures.same c.raise.ensures.rises)

pub returns-clause-turned : goal.returns-clause-turned
returns-clause-turned g c =
    let a = c.args.self.now in
    let order = c.in_ok-serve_all.ensures.order in
    record {
      desks = c.receive_all.new.desks.items;
      received = flushed_received a.desks.items c.flush_all.new.desks.items c.receive_all.new.desks.items c.flush_all.ensures.desks c.in_ok-receive_all.ensures;
      asks = order.0;
      served = order.1;
      order = order.2;
      raised = raised_overseer a.overseer c.look_all.new.overseer c.serve_all.new.self.overseer c.raise.new.self c.look_all.ensures.global c.in_ok-serve_all.ensures.overseer c.raise.ensures.lows c.raise.ensures.raised;
    }
