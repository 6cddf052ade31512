use Rattle.std.proofs.Common.{◌≡◌, ◌≤◌, ◌∙◌, ◌+◌, ◌-◌, sym, ap, subst, arith}
use Rattle.slack_base.specs.declared.bounds.TheConstants.{TOP}
use Rattle.target_law.specs.Cycles.{lockstep}
use Rattle.target_law.specs.Proper.{IsProper, IsPunctual}
use Rattle.target_law.specs.Views.{state_of}
use Rattle.target_law.proofs.Lockstep.{lockstep_none, lockstep_later}
use Rattle.target_law.proofs.Punctual.{proper_after, punctual_after}
use Rattle.leap_run.proofs.runs.run_to.Goals as goal

pub loop-state-init : goal.loop-state-init
loop-state-init g c =
    record {
      begun = omega arith;
      order = c.requires.order;
      state = lockstep_none (g.T.Target.rules c.args.target.now) (state_of g.T.Target.values c.args.state.now) (c.args.state.now.clock - c.args.state.now.clock) (omega arith);
      proper = c.requires.proper;
      punctual = c.requires.punctual;
      asks = c.new-messages.ensures.asks;
      posts = c.new-messages.ensures.posts;
    }

pub leap_on-requires-clause-proper : goal.leap_on-requires-clause-proper
leap_on-requires-clause-proper g c κs within = c.loop-state.invariant.proper

pub leap_on-requires-clause-punctual : goal.leap_on-requires-clause-punctual
leap_on-requires-clause-punctual g c κs within = c.loop-state.invariant.punctual

pub leap_on-requires-clause-asks : goal.leap_on-requires-clause-asks
leap_on-requires-clause-asks g c κs within = c.loop-state.invariant.asks

pub leap_on-requires-clause-posts : goal.leap_on-requires-clause-posts
leap_on-requires-clause-posts g c κs within = c.loop-state.invariant.posts

pub loop-state-preserved : goal.loop-state-preserved
loop-state-preserved g c =
    let t = c.args.target.now in
    let rs = g.T.Target.rules t in
    let owns = g.T.Target.owns t in
    let laws = g.met.T.Target.laws t in
    let is = c.loop-state.invariant in
    let first = state_of g.T.Target.values c.args.state.now in
    let now = state_of g.T.Target.values c.loop-state.state in
    let then = state_of g.T.Target.values c.leap_on.new.state in
    let j = c.leap_on.new.state.clock - c.loop-state.state.clock in
    let ahead = c.in_ok-leap_on.ensures.ahead in
    let begun = is.begun in
    let low : now.clock + j ≤ TOP = omega (arith, c.requires.top) in
    let e : then ≡ lockstep rs now j = c.in_ok-leap_on.ensures.state in
    record {
      begun = omega arith;
      order = ahead.1;
      state = lockstep_later rs first now then c.loop-state.state.clock c.leap_on.new.state.clock begun (omega arith) is.state e;
      proper = subst (IsProper rs owns) (sym e) (proper_after rs owns laws j now is.proper low);
      punctual = subst IsPunctual (sym e) (punctual_after rs owns laws j now is.proper is.punctual low);
      asks = c.in_ok-leap_on.ensures.asks;
      posts = c.in_ok-leap_on.ensures.posts;
    }

pub returns-clause-state : goal.returns-clause-state
returns-clause-state g c =
    let order = c.loop-state.invariant.order in
    let at : c.loop-state.state.clock ≡ c.args.clock = omega (arith, c.loop-state-test.false) in
    c.loop-state.invariant.state ∙ ap (λ n. lockstep (g.T.Target.rules c.args.target.now) (state_of g.T.Target.values c.args.state.now) (n - c.args.state.now.clock)) at
