-- An interval in speculative mode.
use Rattle.std.specs.Prelude.{◌≡◌, ◌≢◌, ℕ, ◌+◌, ◌<◌, List, [], ◌∷◌, IsTrue, Some, slice_get}
use Rattle.io_edge.specs.Holds.{Holds}
use Rattle.slack_base.specs.declared.histories.Drift.{Drift}
use Rattle.slack_base.specs.declared.messages.Ask.{Ask}
use Rattle.slack_base.specs.declared.notes.Interval.{Interval}
use Rattle.slack_base.specs.declared.notes.Interval.TheVariants.{Kept, Rolled}
use Rattle.slack_base.specs.Messages.{id_of, line_of}
use Rattle.slack_base.specs.Stamps.{is_above}
use Rattle.target_law.specs.Cycles.{StateValue, lockstep, asks}
use Rattle.target_law.specs.Drifts.{IsDrift}
use Rattle.target_law.specs.Rules.{Rules}
use Rattle.target_law.specs.Runs.{Ends}
use Rattle.violation_watch.specs.Scan.{scan_of}
use Rattle.drift_run.specs.Holds.{IsHeldAlone, KeepsHolds}

module _ {Inner Chan : Type 0} (rules : Rules Inner Chan) (holds : Holds) (slack : ℕ) where
  -- in k cycles of lockstep from s, a core that the gate holds alone asks for a line before another core does, and the
  -- other asks within the slack: so a drift that keeps the holds serves the two out of their order
  pub record IsCrossed (k : ℕ) (s : StateValue Inner Chan) : Type 0 where
    pub core : ℕ
    pub within : core < rules.cores
    pub alone : IsHeldAlone holds rules.cores slack s.clock k core
    pub i : ℕ
    pub j : ℕ
    pub own : Ask
    pub other : Ask
    pub own_asked : slice_get (asks rules s k) i ≡ Some own
    pub other_asked : slice_get (asks rules s k) j ≡ Some other
    pub own_core : (id_of own).core ≡ core
    pub other_core : (id_of other).core ≢ core
    pub line : ℕ
    pub own_line : line_of own ≡ Some line
    pub other_line : line_of other ≡ Some line
    pub later : IsTrue (is_above (id_of other) (id_of own))
    pub soon : (id_of other).cycle < s.clock + slack

  -- the drift was rolled back: it fits the state at which the interval began, it keeps the holds, and what the monitors
  -- recorded of it, which is something, is noted
  pub record IsRolled (k : ℕ) (s : StateValue Inner Chan) (d : Drift) (added : List Interval) : Type 0 where
    pub drifted : StateValue Inner Chan
    pub fits : IsDrift rules s d drifted
    pub len : d.len ≡ k
    pub holds' : KeepsHolds holds rules.cores slack s.clock k d.served
    pub recorded : scan_of rules d ≢ []
    pub noted : added ≡ Rolled k d (scan_of rules d) ∷ []

  -- what an interval of k cycles from s may be noted as. One in which asks are crossed isn't kept
  pub data IsNoted (k : ℕ) (s : StateValue Inner Chan) (added : List Interval) : Type 0 where
    kept : (IsCrossed k s → ⊥) → added ≡ Kept k ∷ [] → IsNoted k s added
    rolled : {d : Drift} → IsRolled k s d added → IsNoted k s added

  -- either way the interval ends as lockstep does, and has one note
  pub record IsSpeculated (notes : List Interval) (k : ℕ) (s : StateValue Inner Chan) (added : List Interval) (e : StateValue Inner Chan) : Type 0 where
    pub end : e ≡ lockstep rules s k
    pub noted : IsNoted k s added

  -- a run in intervals, each of which is so, left these notes and this state
  abbrev pub IsSpeculativeRun : (interval limit : ℕ) → (s : StateValue Inner Chan) → List Interval → (e : StateValue Inner Chan) → Type 0
  IsSpeculativeRun interval limit s notes e = Ends rules interval limit IsSpeculated s notes e
