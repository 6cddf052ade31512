-- What is so of a drift with marks in sight, said of the machine itself; and its marks.
use Rattle.std.proofs.Common.{◌≡◌, ◌∙◌, ℕ, ◌+◌, ◌≤◌, List, map, sym, subst, arith}
use Rattle.slack_base.specs.declared.bounds.TheConstants.{TOP}
use Rattle.slack_base.specs.declared.histories.Drift.{Drift}
use Rattle.slack_base.specs.declared.histories.Violation.{Violation}
use Rattle.slack_base.specs.Marks.{Marked}
use Rattle.target_law.specs.Cycles.{StateValue}
use Rattle.target_law.specs.Drifts.{IsDrift}
use Rattle.target_law.specs.InSight.{MarkedInner, rules_in_sight, owns_in_sight, values_in_sight}
use Rattle.target_law.specs.Laws.{Laws}
use Rattle.target_law.specs.Proper.{IsProper}
use Rattle.target_law.specs.Rules.{Rules, Owns}
use Rattle.target_law.specs.Values.{Values}
use Rattle.target_law.proofs.Sights.{drift_bare, drift_saved, proper_in_sight, proper_bare, bare_is, core_marks, chan_marks}
use Rattle.violation_watch.specs.Scan.{scan_of}
use Rattle.violation_watch.proofs.Join.{complete}
use Rattle.drive_script.specs.Scripts.{IsExactIfQuiet}

module _ {Inner Chan : Type 0} (rules : Rules Inner Chan) (owns : Owns Inner Chan) {Core D : Type 0} (values : Values Core D Inner Chan) where
  abbrev pub seen_as : (clock : ℕ) → List Core → List D → StateValue Inner Chan
  seen_as clock cores chans = record { clock = clock; cores = map values.core cores; chans = map values.chan chans }

  abbrev pub in_sight : (clock : ℕ) → List Core → List D → StateValue (MarkedInner Inner) (Marked Chan)
  in_sight clock cores chans = record { clock = clock; cores = map (values_in_sight values).core cores; chans = map (values_in_sight values).chan chans }

  pub proper_before : (clock : ℕ) (cores : List Core) (chans : List D) → IsProper rules owns (seen_as clock cores chans) → IsProper (rules_in_sight rules) (owns_in_sight owns) (in_sight clock cores chans)
  proper_before clock cores chans is = proper_in_sight rules owns (in_sight clock cores chans) (subst (IsProper rules owns) (sym (bare_is values clock cores chans)) is)

  pub proper_after : (clock : ℕ) (cores : List Core) (chans : List D) → IsProper (rules_in_sight rules) (owns_in_sight owns) (in_sight clock cores chans) → IsProper rules owns (seen_as clock cores chans)
  proper_after clock cores chans is = subst (IsProper rules owns) (bare_is values clock cores chans) (proper_bare rules owns (in_sight clock cores chans) is)

  module _ (clock : ℕ) (cores : List Core) (chans : List D) (d : Drift) (end : ℕ) (cores' : List Core) (chans' : List D)
      (is : IsDrift (rules_in_sight rules) (in_sight clock cores chans) d (in_sight end cores' chans')) where
    pub drift_after : IsDrift rules (seen_as clock cores chans) d (seen_as end cores' chans')
    drift_after =
        subst (λ s. IsDrift rules s d (seen_as end cores' chans')) (bare_is values clock cores chans)
        (subst (IsDrift rules _ d) (bare_is values end cores' chans') (drift_bare rules (in_sight clock cores chans) d (in_sight end cores' chans') is))

    pub core_marks_stay : map values.saved_core cores' ≡ map values.saved_core cores
    core_marks_stay = sym (core_marks values cores') ∙ (drift_saved rules (in_sight clock cores chans) d (in_sight end cores' chans') is).cores ∙ core_marks values cores

    pub chan_marks_stay : map values.saved_chan chans' ≡ map values.saved_chan chans
    chan_marks_stay = sym (chan_marks values chans') ∙ (drift_saved rules (in_sight clock cores chans) d (in_sight end cores' chans') is).chans ∙ chan_marks values chans

    pub exact_after : Laws rules owns → (len : ℕ) (seen : List Violation) → IsProper rules owns (seen_as clock cores chans) → clock + len ≤ TOP → d.len ≡ len → seen ≡ scan_of rules d
        → IsExactIfQuiet rules (seen_as clock cores chans) d seen (seen_as end cores' chans')
    exact_after laws len seen proper top long noted quiet =
        let start : d.start ≡ clock = drift_after.start in
        let at : end ≡ d.start + d.len = drift_after.clock in
        complete rules owns laws (seen_as clock cores chans) d (seen_as end cores' chans') proper drift_after (omega (arith, start, at, long, top)) (sym noted ∙ quiet)
