-- A run of drifts in pieces.
use Rattle.std.proofs.Common.{◌≡◌, ℕ, ◌+◌, ◌<◌, List, [], ◌∷◌, ◌++◌, sym, ap, subst, arith}
use Rattle.slack_base.specs.declared.histories.Drift.{Drift}
use Rattle.slack_base.specs.declared.histories.Violation.{Violation}
use Rattle.slack_base.specs.declared.notes.Interval.{Interval}
use Rattle.slack_base.specs.declared.notes.Interval.TheVariants.{Bounded}
use Rattle.target_law.specs.Cycles.{StateValue}
use Rattle.target_law.specs.Rules.{Rules, Owns}
use Rattle.target_law.specs.Runs.{Goes, span}
use Rattle.target_law.proofs.Ways.{IsOnItsWay, goes_further}
use Rattle.violation_watch.specs.BoundedNotes.{IsBoundedBy}
use Rattle.violation_watch.specs.Scan.{scan_of}
use Rattle.pacing.specs.Laws.{IsProperDrift}
use Rattle.pacing.specs.Pieces.{IsPieces}

-- an interval in pieces, with its note
module _ {Inner Chan : Type 0} (rules : Rules Inner Chan) (owns : Owns Inner Chan) (quantum k : ℕ) (s e : StateValue Inner Chan) (d : Drift)
    (is : IsPieces rules quantum k s d e) (whole : IsProperDrift rules owns s d e) where
  length-drift : d.len ≡ k
  length-drift = ap (λ (x : Drift). x.len) is.drift

  pub clock_after : e.clock ≡ s.clock + k
  clock_after = let start = whole.drift.start in let at = whole.drift.clock in let long = length-drift in omega arith

  bounded_of : (notes : List Interval) (seen : List Violation) → seen ≡ scan_of rules d → IsBoundedBy rules (IsPieces rules quantum) notes k s (Bounded k d seen ∷ []) e
  bounded_of notes seen noted = record { drift = d; of_kind = is; fits = whole.drift; len = length-drift; noted = ap (λ vs. Bounded k d vs ∷ []) noted }

  -- the run has gone through it
  pub went : (interval limit : ℕ) (begun : StateValue Inner Chan) (notes more : List Interval) (seen : List Violation) → IsOnItsWay rules interval limit (IsBoundedBy rules (IsPieces rules quantum)) begun notes s
      → s.clock < limit → k ≡ span interval limit s → seen ≡ scan_of rules d → more ≡ notes ++ Bounded k d seen ∷ [] → Goes rules interval limit (IsBoundedBy rules (IsPieces rules quantum)) begun more e
  went interval limit begun notes more seen way low span_is noted pushed =
      subst (λ ns. Goes rules interval limit (IsBoundedBy rules (IsPieces rules quantum)) begun ns e) (sym pushed)
      (goes_further rules interval limit (IsBoundedBy rules (IsPieces rules quantum)) begun notes (Bounded k d seen ∷ []) k s e way low span_is (bounded_of notes seen noted))
