use Rattle.std.proofs.Common.{rules, ◌<◌, ◌-◌, ◌^◌, ◌⊎◌, inl, inr, length, arith}
use Rattle.manager.proofs.Ending.{busy_less, no_fewer}
use Rattle.manager.proofs.Leading.{led_then}
use Rattle.manager.proofs.Queues.{none_left}
use Rattle.manager.proofs.managers.Manager.leg.Goals.{then-global, else-global}
use Rattle.manager.proofs.managers.Manager.leg.Goals as goal

pub loop-self-smaller-then-len-count : goal.loop-self-smaller-then-len-count
loop-self-smaller-then-len-count g c =
    let a = c.args.self.now in
    let now = c.loop-self.self in
    let new = c.turn.new.self in
    let h = c.loop-self.invariant in
    let turn = c.in_ok-turn.ensures.led in
    let more : (now.overseer.global < new.overseer.global) ⊎ (length now.served < length new.served) = elim c.if-global.branch [
      | then-global w ↦ inl (search rules)
      | else-global w ↦ inr (search rules)
    ] in
    let grown = no_fewer a.served now.served h.led.served.0 h.led.served.1 in
    let first = h.first in
    let below : now.overseer.global < c.args.end = search rules in
    let few : length now.served - c.len-first.result < 2 ^ 32 = search rules in
    busy_less c.args.end now.overseer.global new.overseer.global (2 ^ 32) c.len-first.result (length now.served) (length new.served) c.args.patience c.loop-self.idle
    below few (omega (arith, grown, first)) turn.rises (no_fewer now.served new.served turn.served.0 turn.served.1) more h.idle

pub loop-self-preserved-then-len-count : goal.loop-self-preserved-then-len-count
loop-self-preserved-then-len-count g c =
    let t = c.args.target.now in
    let h = c.loop-self.invariant in
    record {
      led = led_then (g.T.Target.rules t) (g.T.Target.owns t) (g.met.T.Target.laws t) g.T.Target.values c.args.self.now c.loop-self.self c.turn.new.self h.led c.in_ok-turn.ensures.led;
      first = h.first;
      cores = h.cores;
      idle = omega arith;
      none = λ l. absurd (omega (arith, l));
    }

pub loop-self-preserved : goal.loop-self-preserved
loop-self-preserved g c =
    let t = c.args.target.now in
    let h = c.loop-self.invariant in
    record {
      led = led_then (g.T.Target.rules t) (g.T.Target.owns t) (g.met.T.Target.laws t) g.T.Target.values c.args.self.now c.loop-self.self c.turn.new.self h.led c.in_ok-turn.ensures.led;
      first = h.first;
      cores = h.cores;
      idle = search rules;
      none = λ _. none_left (g.T.Target.rules t) c.in_ok-turn.ensures.turned.order;
    }

pub returns-else-idle-from-clause-ended : goal.returns-else-idle-from-clause-ended
returns-else-idle-from-clause-ended g c =
    let h = c.loop-self.invariant in
    inr (inr (h.none (search rules)))
