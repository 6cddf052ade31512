use Rattle.std.proofs.Common.{◌-◌, ◌≤◌}
use Rattle.target_law.specs.Proper.{IsProper}
use Rattle.target_law.specs.Views.{state_of}
use Rattle.violation_watch.specs.BoundedNotes.{IsBoundedBy}
use Rattle.pacing.specs.Pieces.{IsPieces}
use Rattle.target_law.proofs.Ways.{IsOnItsWay}
use Rattle.pacing.proofs.runs.quantum_run.Given as goal

-- the run is between two intervals
abbrev pub invariant-loop-now : goal.invariant-loop-now
invariant-loop-now g l =
    let rules = g.T.Target.rules l.target in
    let now = state_of g.T.Target.values l.now in
    record {
      low : l.now.clock ≤ l.limit;
      proper : IsProper rules (g.T.Target.owns l.target) now;
      way : IsOnItsWay rules l.interval l.limit (IsBoundedBy rules (IsPieces rules l.quantum)) (state_of g.T.Target.values l.fn.state) l.notes now;
    }

abbrev pub decreases-loop-now : goal.decreases-loop-now
decreases-loop-now g l = l.limit - l.now.clock
