use Rattle.std.proofs.Common.{◌-◌, ◌≤◌}
use Rattle.io_edge.specs.Holds.{Holds}
use Rattle.target_law.specs.Proper.{IsProper, IsPunctual}
use Rattle.target_law.specs.Views.{state_of}
use Rattle.target_law.proofs.Ways.{IsOnItsWay}
use Rattle.spec_run.specs.Speculative.{IsSpeculated}
use Rattle.spec_run.proofs.runs.run_intervals.Given as goal

-- the run is between two intervals
abbrev pub invariant-loop-now : goal.invariant-loop-now
invariant-loop-now g l =
    let rules = g.T.Target.rules l.target in
    let now = state_of g.T.Target.values l.now in
    let holds : Holds = record { may = g.G.Gate.may_hold l.gate; must = g.G.Gate.must_hold l.gate } in
    record {
      low : l.now.clock ≤ l.run.limit;
      proper : IsProper rules (g.T.Target.owns l.target) now;
      punctual : IsPunctual now;
      way : IsOnItsWay rules l.run.interval l.run.limit (IsSpeculated rules holds l.run.slack) (state_of g.T.Target.values l.fn.state) l.notes now;
    }

abbrev pub decreases-loop-now : goal.decreases-loop-now
decreases-loop-now g l = l.run.limit - l.now.clock
