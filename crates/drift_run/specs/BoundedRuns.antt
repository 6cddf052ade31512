-- Runs of drifts by threads.
use Rattle.std.specs.Prelude.{ℕ, List}
use Rattle.io_edge.specs.Holds.{Holds}
use Rattle.slack_base.specs.declared.histories.Drift.{Drift}
use Rattle.slack_base.specs.declared.notes.Interval.{Interval}
use Rattle.target_law.specs.Cycles.{StateValue}
use Rattle.target_law.specs.Rules.{Rules}
use Rattle.target_law.specs.Runs.{Ends}
use Rattle.violation_watch.specs.BoundedNotes.{IsBoundedBy}
use Rattle.drift_run.specs.Holds.{KeepsHolds}

module _ {Inner Chan : Type 0} (rules : Rules Inner Chan) (holds : Holds) (slack : ℕ) where
  -- the drifts that keep the holds of a gate
  abbrev pub IsHolding : (k : ℕ) → StateValue Inner Chan → Drift → StateValue Inner Chan → Type 0
  IsHolding k s d e = KeepsHolds holds rules.cores slack s.clock k d.served

  -- a run in intervals, each of which is such a drift, left these notes and this state
  abbrev pub IsBoundedRun : (interval limit : ℕ) → (s : StateValue Inner Chan) → List Interval → (e : StateValue Inner Chan) → Type 0
  IsBoundedRun interval limit s notes e = Ends rules interval limit (IsBoundedBy rules IsHolding) s notes e
