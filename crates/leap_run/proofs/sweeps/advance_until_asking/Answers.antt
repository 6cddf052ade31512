use Rattle.std.proofs.Common.{◌≤◌, ◌∙◌, ◌+◌, ◌-◌, ◌++◌, sym, ap, subst, arith}
use Rattle.slack_base.specs.declared.bounds.TheConstants.{TOP}
use Rattle.target_law.specs.Cycles.{ticks_of}
use Rattle.target_law.specs.Proper.{IsCore}
use Rattle.target_law.proofs.Loops.{core_at}
use Rattle.target_law.proofs.Ticking.{ticks_core}
use Rattle.leap_run.proofs.Quieting.{gone_on}
use Rattle.leap_run.proofs.sweeps.advance_until_asking.Goals as goal

pub loop-clock-init : goal.loop-clock-init
loop-clock-init g c =
    let rs = g.T.Target.rules c.args.target.now in
    let owns = g.T.Target.owns c.args.target.now in
    let first = g.T.Target.values.core c.args.core.now in
    let t = c.args.from in
    let u = c.in_ok-clock.clock in
    let number = rs.core_number first.inner in
    let reached = c.in_ok-clock.ensures.reached in
    let ticks = reached.ticks in
    let within = reached.within in
    let low : t + (u - t) ≤ TOP = omega (arith, c.requires.top) in
    let e = c.in_ok-clock.ensures.core in
    record {
      ahead = ticks;
      order = within;
      is = subst (IsCore rs owns) (sym e) (core_at rs owns number (ticks_of rs t (u - t) first).0 (ticks_core rs owns (g.met.T.Target.laws c.args.target.now) t (u - t) number first low c.requires.core));
      core = e;
      asks = c.in_ok-clock.ensures.asks ∙ ap (λ xs. xs ++ (ticks_of rs t (u - t) first).1) c.requires.asks;
      last = record { silent = reached.last };
    }

pub advance-requires-in-loop-clock-clause-core : goal.advance-requires-in-loop-clock-clause-core
advance-requires-in-loop-clock-clause-core g c = c.loop-clock.invariant.is

pub loop-clock-preserved : goal.loop-clock-preserved
loop-clock-preserved g c =
    let rs = g.T.Target.rules c.args.target.now in
    let owns = g.T.Target.owns c.args.target.now in
    let first = g.T.Target.values.core c.args.core.now in
    let core = g.T.Target.values.core c.loop-clock.core in
    let new = g.T.Target.values.core c.advance-in-loop-clock.new.core in
    let t = c.args.from in
    let now = c.loop-clock.clock in
    let u = c.in_ok-clock-2.clock in
    let number = rs.core_number core.inner in
    let reached = c.in_ok-clock-2.ensures.reached in
    let ticks = reached.ticks in
    let within = reached.within in
    let ahead = c.loop-clock.invariant.ahead in
    let low : now + (u - now) ≤ TOP = omega (arith, c.requires.top) in
    let e = c.in_ok-clock-2.ensures.core in
    let gone = gone_on rs t now u first core new c.loop-clock.asks c.advance-in-loop-clock.new.out ahead ticks c.loop-clock.invariant.core c.loop-clock.invariant.asks (c.is_empty.ensures.0 c.if-is_empty.true) e c.in_ok-clock-2.ensures.asks reached.last in
    record {
      ahead = omega arith;
      order = within;
      is = subst (IsCore rs owns) (sym e) (core_at rs owns number (ticks_of rs now (u - now) core).0 (ticks_core rs owns (g.met.T.Target.laws c.args.target.now) now (u - now) number core low c.loop-clock.invariant.is));
      core = gone.core;
      asks = gone.asks_are;
      last = gone.last;
    }
