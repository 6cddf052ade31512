use Rattle.std.proofs.Common.{◌-◌, arith}
use Rattle.target_law.specs.Views.{state_of}
use Rattle.target_law.proofs.Lockstep.{lockstep_none}
use Rattle.target_law.proofs.Running.{going_first, next_low, next_state, stops_here, stops_next, going_next}
use Rattle.leap_run.proofs.runs.run.Goals as goal

pub loop-state-init : goal.loop-state-init
loop-state-init g c =
    let rules = g.T.Target.rules c.args.target.now in
    let s = state_of g.T.Target.values c.args.state.now in
    let clock = c.args.state.now.clock in
    record {
      low = c.requires.begins;
      going = going_first rules c.args.interval c.args.limit s;
      state = lockstep_none rules s (clock - clock) (omega arith);
      proper = c.requires.proper;
      punctual = c.requires.punctual;
    }

pub returns-then-stopped-clause-state : goal.returns-then-stopped-clause-state
returns-then-stopped-clause-state g c =
    let s = state_of g.T.Target.values c.args.state.now in
    let now = state_of g.T.Target.values c.loop-state.state in
    let then = state_of g.T.Target.values c.run_to.new.state in
    next_state (g.T.Target.rules c.args.target.now) c.args.interval c.args.limit s c.loop-state.state.clock c.min.result c.run_to.new.state.clock
    c.loop-state.invariant.going c.loop-state-test.true c.min.ensures c.in_ok-run_to.ensures.clock now then c.loop-state.invariant.state c.in_ok-run_to.ensures.state

pub returns-then-stopped-clause-stops : goal.returns-then-stopped-clause-stops
returns-then-stopped-clause-stops g c =
    let s = state_of g.T.Target.values c.args.state.now in
    let now = state_of g.T.Target.values c.loop-state.state in
    let then = state_of g.T.Target.values c.run_to.new.state in
    stops_next (g.T.Target.rules c.args.target.now) c.args.interval c.args.limit s c.loop-state.state.clock c.min.result c.run_to.new.state.clock
    c.loop-state.invariant.going c.loop-state-test.true c.min.ensures c.in_ok-run_to.ensures.clock now then c.loop-state.invariant.state c.in_ok-run_to.ensures.state
    c.stopped.result c.stopped.ensures c.if-stopped.true

pub loop-state-preserved : goal.loop-state-preserved
loop-state-preserved g c =
    let rules = g.T.Target.rules c.args.target.now in
    let s = state_of g.T.Target.values c.args.state.now in
    let now = state_of g.T.Target.values c.loop-state.state in
    let then = state_of g.T.Target.values c.run_to.new.state in
    let clock = c.loop-state.state.clock in
    let next = c.run_to.new.state.clock in
    let going = c.loop-state.invariant.going in
    record {
      low = next_low rules c.args.interval c.args.limit s clock c.min.result next going c.loop-state-test.true c.min.ensures c.in_ok-run_to.ensures.clock now then
          c.loop-state.invariant.state c.in_ok-run_to.ensures.state;
      going = going_next rules c.args.interval c.args.limit s clock c.min.result next going c.loop-state-test.true c.min.ensures c.in_ok-run_to.ensures.clock now then
          c.loop-state.invariant.state c.in_ok-run_to.ensures.state c.stopped.result c.stopped.ensures c.if-stopped.false;
      state = next_state rules c.args.interval c.args.limit s clock c.min.result next going c.loop-state-test.true c.min.ensures c.in_ok-run_to.ensures.clock now then
          c.loop-state.invariant.state c.in_ok-run_to.ensures.state;
      proper = c.in_ok-run_to.ensures.proper;
      punctual = c.in_ok-run_to.ensures.punctual;
    }

-- at the limit
pub returns-clause-stops : goal.returns-clause-stops
returns-clause-stops g c =
    let s = state_of g.T.Target.values c.args.state.now in
    let low = c.loop-state.invariant.low in
    let high = c.loop-state-test.false in
    stops_here (g.T.Target.rules c.args.target.now) c.args.interval c.args.limit s c.loop-state.state.clock c.loop-state.invariant.going (omega arith)
