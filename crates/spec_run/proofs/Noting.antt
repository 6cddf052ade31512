-- What is noted of an interval, by what its drift was.
use Rattle.std.proofs.Common.{◌≡◌, ◌≢◌, ◌∙◌, ℕ, ◌-◌, List, [], ◌∷◌, refl, sym, ap}
use Rattle.io_edge.specs.Holds.{Holds}
use Rattle.slack_base.specs.declared.histories.Drift.{Drift}
use Rattle.slack_base.specs.declared.histories.Violation.{Violation}
use Rattle.slack_base.specs.declared.notes.Interval.TheVariants.{Kept, Rolled}
use Rattle.target_law.specs.Cycles.{StateValue, lockstep}
use Rattle.target_law.specs.Drifts.{IsDrift}
use Rattle.target_law.specs.Rules.{Rules}
use Rattle.violation_watch.specs.Scan.{scan_of}
use Rattle.drive_script.specs.Scripts.{IsExactIfQuiet}
use Rattle.drift_run.specs.Holds.{KeepsHolds}
use Rattle.spec_run.specs.Speculative.{kept, rolled, IsSpeculated}
use Rattle.spec_run.proofs.Crossed.{not_crossed}

module _ {Inner Chan : Type 0} (rules : Rules Inner Chan) (holds : Holds) (slack k : ℕ) where
  -- a drift by threads of k cycles
  pub record IsMade (d : Drift) (seen : List Violation) (e s : StateValue Inner Chan) : Type 0 where
    pub fits : IsDrift rules s d e
    pub len : d.len ≡ k
    pub recorded : seen ≡ scan_of rules d
    pub exact : IsExactIfQuiet rules s d seen e
    pub keeps : KeepsHolds holds rules.cores slack s.clock k d.served

  module _ (s : StateValue Inner Chan) (d : Drift) (seen : List Violation) (e : StateValue Inner Chan) (made : IsMade d seen e s) where
    pub quiet_end : seen ≡ [] → e ≡ lockstep rules s k
    quiet_end none = (made.exact none).end ∙ ap (lockstep rules s) made.len

    pub kept_so : (then : StateValue Inner Chan) → seen ≡ [] → then ≡ e → IsSpeculated rules holds slack [] k s (Kept k ∷ []) then
    kept_so then none same = record {
      end = same ∙ quiet_end none;
      noted = kept (not_crossed rules holds slack k s d e made.fits made.len made.keeps (sym made.recorded ∙ none) (made.exact none)) refl;
    }

    pub rolled_so : (then : StateValue Inner Chan) → seen ≢ [] → then ≡ lockstep rules s k → IsSpeculated rules holds slack [] k s (Rolled k d seen ∷ []) then
    rolled_so then some at = record {
      end = at;
      noted = rolled (record {
        drifted = e;
        fits = made.fits;
        len = made.len;
        holds' = made.keeps;
        recorded = λ none. some (made.recorded ∙ none);
        noted = ap (λ vs. Rolled k d vs ∷ []) made.recorded;
      });
    }

-- from where the interval began to its end
pub replayed : {Inner Chan : Type 0} (rules : Rules Inner Chan) (s back : StateValue Inner Chan) (until k : ℕ) → back ≡ s → until - back.clock ≡ k → lockstep rules back (until - back.clock) ≡ lockstep rules s k
replayed rules s back until k same long = ap (lockstep rules back) long ∙ ap (λ r. lockstep rules r k) same
