use Rattle.std.proofs.Common.{◌≡◌, ◌-◌, ◌≤◌, []}
use Rattle.target_law.specs.Cycles.{lockstep}
use Rattle.target_law.specs.Proper.{IsProper, IsPunctual}
use Rattle.target_law.specs.Views.{state_of}
use Rattle.leap_run.proofs.runs.run_to.Given as goal

-- the state is so many cycles on, and no message is left
abbrev pub invariant-loop-state : goal.invariant-loop-state
invariant-loop-state g l =
    let rules = g.T.Target.rules l.target in
    let now = state_of g.T.Target.values l.state in
    let first = state_of g.T.Target.values l.fn.state in
    record {
      begun : l.fn.state.clock ≤ l.state.clock;
      order : l.state.clock ≤ l.clock;
      state : now ≡ lockstep rules first (l.state.clock - l.fn.state.clock);
      proper : IsProper rules (g.T.Target.owns l.target) now;
      punctual : IsPunctual now;
      asks : l.messages.asks ≡ [];
      posts : l.messages.posts ≡ [];
    }

abbrev pub decreases-loop-state : goal.decreases-loop-state
decreases-loop-state g l = l.clock - l.state.clock
