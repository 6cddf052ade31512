use Rattle.std.proofs.Common.{◌≤◌, ◌∙◌, ◌+◌, ◌-◌, ◌++◌, refl, sym, ap, subst, arith}
use Rattle.std.proofs.lemmas.List.{append-nil}
use Rattle.slack_base.specs.declared.bounds.TheConstants.{TOP}
use Rattle.target_law.specs.Cycles.{ticks_of}
use Rattle.target_law.specs.Proper.{IsCore}
use Rattle.target_law.proofs.Loops.{core_at}
use Rattle.target_law.proofs.Ticking.{ticks_none, ticks_on, ticks_core}
use Rattle.target_law.proofs.advances.advance_to.Goals as goal

pub advance-requires-clause-core : goal.advance-requires-clause-core
advance-requires-clause-core g c = c.loop-clock.invariant.is

pub loop-clock-init : goal.loop-clock-init
loop-clock-init g c = record { order = c.requires.order; is = c.requires.core; value = refl; asks = refl }

pub loop-clock-preserved : goal.loop-clock-preserved
loop-clock-preserved g c =
    let rs = g.T.Target.rules c.args.target.now in
    let owns = g.T.Target.owns c.args.target.now in
    let core = g.T.Target.values.core c.loop-clock.core in
    let new = g.T.Target.values.core c.advance.new.core in
    let t = c.loop-clock.clock in
    let u = c.in_ok-clock.clock in
    let number = rs.core_number core.inner in
    let ticks = c.in_ok-clock.ensures.reached.ticks in
    let within = c.in_ok-clock.ensures.reached.within in
    let low : t + (u - t) ≤ TOP = omega (arith, c.requires.top) in
    let e = c.in_ok-clock.ensures.core in
    let next = ticks_on rs t (u - t) (c.args.until - t) (c.args.until - u) u core new c.loop-clock.asks c.advance.new.out (omega arith) (omega arith) e c.in_ok-clock.ensures.asks in
    record {
      order = within;
      is = subst (IsCore rs owns) (sym e) (core_at rs owns number (ticks_of rs t (u - t) core).0 (ticks_core rs owns (g.met.T.Target.laws c.args.target.now) t (u - t) number core low c.loop-clock.invariant.is));
      value = next.0 ∙ c.loop-clock.invariant.value;
      asks = next.1 ∙ c.loop-clock.invariant.asks;
    }

pub returns-clause-core : goal.returns-clause-core
returns-clause-core g c =
    let order = c.loop-clock.invariant.order in
    let rs = g.T.Target.rules c.args.target.now in
    let none = ticks_none rs c.loop-clock.clock (c.args.until - c.loop-clock.clock) (g.T.Target.values.core c.loop-clock.core) (omega (arith, c.loop-clock-test.false)) in
    sym (ap (λ r. r.0) none) ∙ c.loop-clock.invariant.value

pub returns-clause-asks : goal.returns-clause-asks
returns-clause-asks g c =
    let order = c.loop-clock.invariant.order in
    let rs = g.T.Target.rules c.args.target.now in
    let none = ticks_none rs c.loop-clock.clock (c.args.until - c.loop-clock.clock) (g.T.Target.values.core c.loop-clock.core) (omega (arith, c.loop-clock-test.false)) in
    sym (append-nil c.loop-clock.asks) ∙ sym (ap (λ r. c.loop-clock.asks ++ r.1) none) ∙ c.loop-clock.invariant.asks
