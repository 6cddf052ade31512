-- Intervals of one drift each, which are kept whatever the monitors record of it.
use Rattle.std.specs.Prelude.{◌≡◌, ℕ, List, [], ◌∷◌}
use Rattle.slack_base.specs.declared.histories.Drift.{Drift}
use Rattle.slack_base.specs.declared.notes.Interval.{Interval}
use Rattle.slack_base.specs.declared.notes.Interval.TheVariants.{Bounded}
use Rattle.target_law.specs.Cycles.{StateValue}
use Rattle.target_law.specs.Drifts.{IsDrift}
use Rattle.target_law.specs.Rules.{Rules}
use Rattle.violation_watch.specs.Scan.{scan_of}

module _ {Inner Chan : Type 0} (rules : Rules Inner Chan) where
  -- the drifts over k cycles that a mode makes: from a state, the history and the state at its end
  abbrev pub Kind : Type 1
  Kind = (k : ℕ) → StateValue Inner Chan → Drift → StateValue Inner Chan → Type 0

  -- an interval of k cycles is one drift of this kind, and its note has all that the monitors record of it
  pub record IsBoundedBy (kind : Kind) (notes : List Interval) (k : ℕ) (s : StateValue Inner Chan) (added : List Interval) (e : StateValue Inner Chan) : Type 0 where
    pub drift : Drift
    pub of_kind : kind k s drift e
    pub fits : IsDrift rules s drift e
    pub len : drift.len ≡ k
    pub noted : added ≡ Bounded k drift (scan_of rules drift) ∷ []
