use Rattle.std.proofs.Common.{◌-◌, arith, rules}
use Rattle.target_law.specs.Views.{state_of}
use Rattle.target_law.proofs.Lockstep.{lockstep_none, lockstep_more}
use Rattle.target_law.proofs.cycles.run_to.Goals as goal

pub loop-state-init : goal.loop-state-init
loop-state-init g c =
    record {
      begun = omega arith;
      order = c.requires.order;
      state = lockstep_none (g.T.Target.rules c.args.target.now) (state_of g.T.Target.values c.args.state.now) (c.args.state.now.clock - c.args.state.now.clock) (omega arith);
      proper = c.requires.proper;
      punctual = λ is. is;
    }

pub loop-state-preserved : goal.loop-state-preserved
loop-state-preserved g c =
    let clock = c.in_ok-cycle_with.ensures.clock in
    let first = state_of g.T.Target.values c.args.state.now in
    let now = state_of g.T.Target.values c.loop-state.state in
    let then = state_of g.T.Target.values c.cycle_with.new.state in
    let before = c.loop-state.state.clock - c.args.state.now.clock in
    let after = c.cycle_with.new.state.clock - c.args.state.now.clock in
    record {
      begun = search rules;
      order = search rules;
      state = lockstep_more (g.T.Target.rules c.args.target.now) first now then before after c.loop-state.invariant.state c.in_ok-cycle_with.ensures.state (search rules);
      proper = c.in_ok-cycle_with.ensures.proper;
      punctual = λ _. c.in_ok-cycle_with.ensures.punctual;
    }
