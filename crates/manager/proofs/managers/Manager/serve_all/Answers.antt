use Rattle.std.proofs.Common.{◌<◌, ◌++◌, ◌∷◌, ◌∙◌, [], refl, sym, ap, subst, append_assoc, append-nil}
use Rattle.manager.specs.Queues.{queues_of, ServesAll, done}
use Rattle.manager.proofs.Leading.{led_begins, led_then}
use Rattle.manager.proofs.Queues.{LeadsFrom, waiting, fewer_waiting, leads_more}
use Rattle.manager.proofs.managers.Manager.serve_all.Goals as goal

pub loop-place-init : goal.loop-place-init
loop-place-init g c =
    let t = c.args.target.now in
    record {
      led = led_begins (g.T.Target.rules t) (g.T.Target.owns t) (g.met.T.Target.laws t) g.T.Target.values c.args.self.now c.requires;
      order = ([], sym (append-nil c.args.self.now.served), λ more left s. s);
      overseer = refl;
    }

pub loop-place-smaller : goal.loop-place-smaller
loop-place-smaller g c =
    let takes = c.in_ok-serve_at.ensures.takes in
    let now = queues_of c.loop-place.self.desks.items in
    subst (λ queues. waiting queues < waiting now) (sym takes.queues) (fewer_waiting c.in-Some.place takes.ask now takes.oldest)

pub loop-place-preserved : goal.loop-place-preserved
loop-place-preserved g c =
    let t = c.args.target.now in
    let rules = g.T.Target.rules t in
    let a = c.args.self.now in
    let h = c.loop-place.invariant in
    let done = c.in_ok-serve_at.ensures in
    let takes = done.takes in
    let next = c.in-Some.ensures.some in
    record {
      led = led_then rules (g.T.Target.owns t) (g.met.T.Target.laws t) g.T.Target.values a c.loop-place.self c.serve_at.new.self h.led done.led;
      order = (
        h.order.0 ++ takes.ask ∷ [],
        takes.served ∙ ap (λ xs. xs ++ takes.ask ∷ []) h.order.1 ∙ append_assoc a.served h.order.0 (takes.ask ∷ []),
        subst (λ queues. LeadsFrom rules (queues_of a.desks.items) (h.order.0 ++ takes.ask ∷ []) queues) (sym takes.queues)
            (leads_more rules (queues_of a.desks.items) h.order.0 (queues_of c.loop-place.self.desks.items) c.in-Some.place next.0 takes.ask h.order.2 next.1 takes.oldest),
      );
      overseer = done.overseer ∙ h.overseer;
    }

pub returns-clause-order : goal.returns-clause-order
returns-clause-order g c =
    let rules = g.T.Target.rules c.args.target.now in
    let first = queues_of c.args.self.now.desks.items in
    let now = queues_of c.loop-place.self.desks.items in
    let h = c.loop-place.invariant in
    (h.order.0, h.order.1, subst (λ xs. ServesAll rules first xs now) (append-nil h.order.0) (h.order.2 [] now (done c.in_default.ensures.none)))
