-- What is handed back is a drift of its state.
use Rattle.std.proofs.Common.{◌≡◌, ◌∙◌, ℕ, List, sym, ap, subst}
use Rattle.slack_base.specs.declared.histories.Drift.{Drift}
use Rattle.slack_base.specs.declared.histories.Violation.{Violation}
use Rattle.target_law.specs.Cycles.{StateValue}
use Rattle.target_law.specs.Drifts.{IsDrift}
use Rattle.target_law.specs.Laws.{Laws}
use Rattle.target_law.specs.Proper.{IsProper}
use Rattle.target_law.specs.Rules.{Rules, Owns}
use Rattle.violation_watch.specs.Scan.{scan_of}
use Rattle.drive_script.specs.Open.{IsOpen}
use Rattle.drive_script.specs.Scripts.{history, closed}
use Rattle.drive_script.specs.Worlds.{WorldValue}
use Rattle.drive_script.proofs.Closed.{closed_proper}

module _ {Inner Chan : Type 0} (rules : Rules Inner Chan) (start len : ℕ) (world : WorldValue Inner Chan) (d : Drift) (e : StateValue Inner Chan)
    (drift_is : d ≡ history start len world) (end_is : e ≡ closed rules world) where
  pub whole_len : d.len ≡ len
  whole_len = ap (λ (x : Drift). x.len) drift_is

  pub whole_seen : (found : List Violation) → found ≡ scan_of rules (history start len world) → found ≡ scan_of rules d
  whole_seen found is = is ∙ ap (scan_of rules) (sym drift_is)

  pub whole_drift : (s : StateValue Inner Chan) → IsDrift rules s (history start len world) (closed rules world) → IsDrift rules s d e
  whole_drift s is = subst (λ x. IsDrift rules s x e) (sym drift_is) (subst (IsDrift rules s (history start len world)) (sym end_is) is)

  module _ (owns : Owns Inner Chan) (laws : Laws rules owns) where
    pub whole_proper : IsOpen rules owns world → IsProper rules owns e
    whole_proper is = subst (IsProper rules owns) (sym end_is) (closed_proper rules owns laws world is)
