use Rattle.std.proofs.Common.{◌∙◌, sym, arith, refl}
use Rattle.manager.specs.declared.managers.Desk.{Desk}
use Rattle.manager.proofs.Queues.{place_within}
use Rattle.manager.proofs.OneServed.{some_ask, proper_ask, inside, led_served, takes_oldest}
use Rattle.manager.proofs.managers.Manager.serve_at.Goals as goal

pub index_mut-requires : goal.index_mut-requires
index_mut-requires g c =
    let desks = c.args.self.now.desks in
    let servable = c.requires.servable in
    let within = place_within (g.T.Target.rules c.args.target.now) c.args.place desks.items servable.0 servable.1 in
    let count = desks.ok.0 in
    omega (arith, within, count)

pub unreachable-requires : goal.unreachable-requires
unreachable-requires g c =
    let t = c.args.target.now in
    let servable = c.requires.servable in
    some_ask (g.T.Target.rules t) (g.T.Target.owns t) (g.met.T.Target.laws t) g.T.Target.values c.args.self.now c.args.place servable.0 servable.1 c.index_mut.result.now c.index_mut.ensures.value
    (sym c.next_ask.ensures.ask ∙ c.in_default.is)

pub serve_one-requires-clause-ask : goal.serve_one-requires-clause-ask
serve_one-requires-clause-ask g c κs bounds =
    let t = c.args.target.now in
    let servable = c.requires.servable in
    proper_ask (g.T.Target.rules t) (g.T.Target.owns t) (g.met.T.Target.laws t) g.T.Target.values c.args.self.now c.args.place servable.0 servable.1 c.index_mut.result.now c.index_mut.ensures.value
    c.in-Some.ask (sym c.next_ask.ensures.ask ∙ c.in-Some.is)

pub send_all-requires : goal.send_all-requires
send_all-requires g c =
    let t = c.args.target.now in
    let a = c.args.self.now in
    let servable = c.requires.servable in
    let d = c.index_mut.result.now in
    let v : Desk = record d { pending = c.next_ask.new.queue } in
    inside (g.T.Target.rules t) (g.T.Target.owns t) (g.met.T.Target.laws t) g.T.Target.values a c.args.place servable.0 servable.1 d c.index_mut.ensures.value
    c.in-Some.ask (sym c.next_ask.ensures.ask ∙ c.in-Some.is)
    c.requires.ready v refl refl c.next_ask.ensures.queue _ c.serve_one.new.self refl refl refl refl refl refl c.in_ok-serve_one.ensures c.as_slice.result.now c.as_slice.ensures

pub returns-clause-led : goal.returns-clause-led
returns-clause-led g c =
    let t = c.args.target.now in
    let a = c.args.self.now in
    let servable = c.requires.servable in
    let d = c.index_mut.result.now in
    let v : Desk = record d { pending = c.next_ask.new.queue } in
    led_served (g.T.Target.rules t) (g.T.Target.owns t) (g.met.T.Target.laws t) g.T.Target.values a c.args.place servable.0 servable.1 d c.index_mut.ensures.value
    c.in-Some.ask (sym c.next_ask.ensures.ask ∙ c.in-Some.is)
    c.requires.ready v refl refl c.next_ask.ensures.queue _ c.serve_one.new.self refl refl refl refl refl refl c.in_ok-serve_one.ensures c.as_slice.result.now c.as_slice.ensures
    _ refl refl refl refl refl c.in_ok-send_all.ensures.desks c.in_ok-send_all.ensures.queues

pub returns-clause-takes : goal.returns-clause-takes
returns-clause-takes g c =
    let t = c.args.target.now in
    let a = c.args.self.now in
    let servable = c.requires.servable in
    let d = c.index_mut.result.now in
    let v : Desk = record d { pending = c.next_ask.new.queue } in
    takes_oldest (g.T.Target.rules t) (g.T.Target.owns t) (g.met.T.Target.laws t) g.T.Target.values a c.args.place servable.0 servable.1 d c.index_mut.ensures.value
    c.in-Some.ask (sym c.next_ask.ensures.ask ∙ c.in-Some.is)
    c.requires.ready v refl refl c.next_ask.ensures.queue _ c.serve_one.new.self refl refl refl refl refl refl c.in_ok-serve_one.ensures c.as_slice.result.now c.as_slice.ensures
    _ refl refl refl refl refl c.in_ok-send_all.ensures.desks c.in_ok-send_all.ensures.queues
