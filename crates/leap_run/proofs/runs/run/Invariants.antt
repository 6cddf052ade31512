use Rattle.std.proofs.Common.{◌≡◌, ◌-◌, ◌≤◌}
use Rattle.target_law.specs.Cycles.{lockstep}
use Rattle.target_law.specs.Proper.{IsProper, IsPunctual}
use Rattle.target_law.specs.Views.{state_of}
use Rattle.target_law.proofs.Running.{IsGoing}
use Rattle.leap_run.proofs.runs.run.Given as goal

-- the run goes on, in lockstep
abbrev pub invariant-loop-state : goal.invariant-loop-state
invariant-loop-state g l =
    let rules = g.T.Target.rules l.target in
    let now = state_of g.T.Target.values l.state in
    let first = state_of g.T.Target.values l.fn.state in
    record {
      low : l.state.clock ≤ l.limit;
      going : IsGoing rules l.interval l.limit first l.state.clock;
      state : now ≡ lockstep rules first (l.state.clock - l.fn.state.clock);
      proper : IsProper rules (g.T.Target.owns l.target) now;
      punctual : IsPunctual now;
    }

abbrev pub decreases-loop-state : goal.decreases-loop-state
decreases-loop-state g l = l.limit - l.state.clock
