-- A run that goes from drift to drift.
use Rattle.std.proofs.Common.{◌≡◌, ℕ, ◌+◌, ◌<◌, List, [], ◌∷◌, ◌++◌, sym, ap, subst, arith}
use Rattle.slack_base.specs.declared.histories.Drift.{Drift}
use Rattle.slack_base.specs.declared.histories.Violation.{Violation}
use Rattle.slack_base.specs.declared.notes.Interval.{Interval}
use Rattle.slack_base.specs.declared.notes.Interval.TheVariants.{Bounded}
use Rattle.target_law.specs.Cycles.{StateValue}
use Rattle.target_law.specs.Drifts.{IsDrift}
use Rattle.target_law.specs.Rules.{Rules}
use Rattle.target_law.specs.Runs.{Goes, span}
use Rattle.target_law.proofs.Ways.{IsOnItsWay, goes_further}
use Rattle.violation_watch.specs.BoundedNotes.{Kind, IsBoundedBy}
use Rattle.violation_watch.specs.Scan.{scan_of}

module _ {Inner Chan : Type 0} (rules : Rules Inner Chan) (kind : Kind rules) (interval limit : ℕ) (s : StateValue Inner Chan) where
  bounded_of : (notes : List Interval) (k : ℕ) (m e : StateValue Inner Chan) (d : Drift) (seen : List Violation)
      → kind k m d e → IsDrift rules m d e → d.len ≡ k → seen ≡ scan_of rules d → IsBoundedBy rules kind notes k m (Bounded k d seen ∷ []) e
  bounded_of notes k m e d seen is fits len noted = record { drift = d; of_kind = is; fits = fits; len = len; noted = ap (λ vs. Bounded k d vs ∷ []) noted }

  -- one drift more
  pub drifted : (notes more : List Interval) (k : ℕ) (m e : StateValue Inner Chan) (d : Drift) (seen : List Violation)
      → IsOnItsWay rules interval limit (IsBoundedBy rules kind) s notes m → m.clock < limit → k ≡ span interval limit m
      → kind k m d e → IsDrift rules m d e → d.len ≡ k → seen ≡ scan_of rules d → more ≡ notes ++ Bounded k d seen ∷ [] → Goes rules interval limit (IsBoundedBy rules kind) s more e
  drifted notes more k m e d seen way low so is fits len noted pushed =
      subst (λ ns. Goes rules interval limit (IsBoundedBy rules kind) s ns e) (sym pushed)
      (goes_further rules interval limit (IsBoundedBy rules kind) s notes (Bounded k d seen ∷ []) k m e way low so (bounded_of notes k m e d seen is fits len noted))

-- the clock that a drift comes to
pub clock_after : {Inner Chan : Type 0} (rules : Rules Inner Chan) (k : ℕ) (m e : StateValue Inner Chan) (d : Drift) → IsDrift rules m d e → d.len ≡ k → e.clock ≡ m.clock + k
clock_after rules k m e d fits len = let start = fits.start in let at = fits.clock in omega arith
