-- Runs in quantum mode.
use Rattle.std.specs.Prelude.{◌≡◌, ℕ, List}
use Rattle.slack_base.specs.declared.notes.Interval.{Interval}
use Rattle.target_law.specs.Cycles.{StateValue}
use Rattle.target_law.specs.Rules.{Rules}
use Rattle.target_law.specs.Runs.{Ends}
use Rattle.violation_watch.specs.BoundedNotes.{IsBoundedBy}
use Rattle.pacing.specs.Pieces.{IsPieces}

module _ {Inner Chan : Type 0} (rules : Rules Inner Chan) where
  -- a run to its end, each interval of which is the drift of its pieces, with all that the monitors record of it
  abbrev pub IsQuantumRun : (quantum interval limit : ℕ) → (s : StateValue Inner Chan) → List Interval → (e : StateValue Inner Chan) → Type 0
  IsQuantumRun quantum interval limit = Ends rules interval limit (IsBoundedBy rules (IsPieces rules quantum))

  -- it has one list of notes and one end, whatever it is run by
  abbrev pub AllOneRun : Type 0
  AllOneRun =
      (quantum interval limit : ℕ) (s : StateValue Inner Chan) (notes notes2 : List Interval) (e e2 : StateValue Inner Chan)
      → IsQuantumRun quantum interval limit s notes e → IsQuantumRun quantum interval limit s notes2 e2 → (notes ≡ notes2) × (e ≡ e2)
