-- Where an interval can go one way only, a run has one end.
use Rattle.std.proofs.Common.{◌≡◌, ◌∙◌, ℕ, ◌<◌, suc, List, [], ◌∷◌, ◌++◌, IsTrue, IsFalse, refl, sym, ap, subst, arith, ⊎_elim}
use Rattle.std.proofs.lemmas.Bool.{false≢true, cases_lt}
use Rattle.slack_base.specs.declared.notes.Interval.{Interval}
use Rattle.slack_base.specs.declared.notes.Interval.TheVariants.{Bounded}
use Rattle.target_law.specs.Cycles.{StateValue}
use Rattle.target_law.specs.Rules.{Rules}
use Rattle.target_law.specs.Runs.{Step, Goes, first, next, Ends, at_once, later, span}
use Rattle.target_law.specs.Stops.{is_over}
use Rattle.violation_watch.specs.BoundedNotes.{IsBoundedBy}
use Rattle.violation_watch.specs.Scan.{scan_of}
use Rattle.pacing.specs.Pieces.{IsPieces}
use Rattle.pacing.specs.QuantumRuns.{AllOneRun}
use Rattle.pacing.proofs.Onlys.{one_outcome}

module _ {Inner Chan : Type 0} (rules : Rules Inner Chan) where
  -- an interval goes one way
  abbrev IsOnly : Step rules → Type 0
  IsOnly step =
      (notes : List Interval) (k : ℕ) (s : StateValue Inner Chan) (added added2 : List Interval) (e e2 : StateValue Inner Chan)
      → step notes k s added e → step notes k s added2 e2 → (added ≡ added2) × (e ≡ e2)

  module _ (interval limit : ℕ) (step : Step rules) (only : IsOnly step) (s : StateValue Inner Chan) where
    -- after so many intervals, and one more
    data IsAfter : ℕ → List Interval → StateValue Inner Chan → Type 0 where
      one : {notes : List Interval} {e : StateValue Inner Chan} → s.clock < limit → step [] (span interval limit s) s notes e → IsAfter 0 notes e
      more : {n : ℕ} {notes added : List Interval} {m e : StateValue Inner Chan}
          → IsAfter n notes m → IsFalse (is_over rules limit m) → step notes (span interval limit m) m added e → IsAfter (suc n) (notes ++ added) e

    counted : {notes : List Interval} {e : StateValue Inner Chan} → Goes rules interval limit step s notes e → (n : ℕ) × IsAfter n notes e
    counted (first low is) = (0, one low is)
    counted (next goes on is) = let before = counted goes in (suc before.0, more before.1 on is)

    below : (n : ℕ) (notes : List Interval) (e : StateValue Inner Chan) → IsAfter n notes e → s.clock < limit
    below _ _ _ (one low is) = low
    below _ _ _ (more {n = n} {notes = notes} {m = m} before on is) = below n notes m before

    same_after : (n : ℕ) (notes notes2 : List Interval) (e e2 : StateValue Inner Chan) → IsAfter n notes e → IsAfter n notes2 e2 → (notes ≡ notes2) × (e ≡ e2)
    same_after _ _ _ _ _ (one {notes = notes} {e = e} low is) (one {notes = notes2} {e = e2} low2 is2) = only [] (span interval limit s) s notes notes2 e e2 is is2
    same_after _ _ _ _ _ (more {n = n} {notes = notes} {added = added} {m = m} {e = e} before on is) (more {notes = notes2} {added = added2} {m = m2} {e = e2} before2 on2 is2) =
        let same = same_after n notes notes2 m m2 before before2 in
        let is3 : step notes (span interval limit m) m added2 e2 =
        subst (λ ns. step ns (span interval limit m) m added2 e2) (sym same.0) (subst (λ r. step notes2 (span interval limit r) r added2 e2) (sym same.1) is2) in
        let last = only notes (span interval limit m) m added added2 e e2 is is3 in
        (ap (λ ns. ns ++ added) same.0 ∙ ap (λ xs. notes2 ++ xs) last.0, last.1)

    -- the run wasn't over after fewer
    not_over : (n j : ℕ) (notes notes2 : List Interval) (e e2 : StateValue Inner Chan) → j < n → IsAfter n notes e → IsAfter j notes2 e2 → IsFalse (is_over rules limit e2)
    not_over _ j _ notes2 _ e2 fewer (one low is) there = absurd (omega arith)
    not_over _ j _ notes2 _ e2 fewer (more {n = n} {notes = notes} {m = m} before on is) there =
        ⊎_elim (λ l. not_over n j notes notes2 m e2 l before there)
        (λ ge. let same : j ≡ n = omega arith in
        subst (λ r. IsFalse (is_over rules limit r)) (sym (same_after n notes2 notes e2 m (subst (λ i. IsAfter i notes2 e2) same there) before).1) on) (cases_lt j n)

    both_ways : {X : Type 0} (e : StateValue Inner Chan) → IsTrue (is_over rules limit e) → IsFalse (is_over rules limit e) → X
    both_ways e on off = absurd (false≢true (sym off ∙ on))

    same_end : (notes notes2 : List Interval) (e e2 : StateValue Inner Chan) → Goes rules interval limit step s notes e → IsTrue (is_over rules limit e) → Goes rules interval limit step s notes2 e2
        → IsTrue (is_over rules limit e2) → (notes ≡ notes2) × (e ≡ e2)
    same_end notes notes2 e e2 goes on goes2 on2 =
        let a = counted goes in
        let b = counted goes2 in
        ⊎_elim (λ less. both_ways e on (not_over b.0 a.0 notes2 notes e2 e less b.1 a.1))
        (λ ge. ⊎_elim (λ less. both_ways e2 on2 (not_over a.0 b.0 notes notes2 e e2 less a.1 b.1))
        (λ le. let same : b.0 ≡ a.0 = omega arith in same_after a.0 notes notes2 e e2 a.1 (subst (λ n. IsAfter n notes2 e2) same b.1)) (cases_lt b.0 a.0)) (cases_lt a.0 b.0)

    one_end : (notes notes2 : List Interval) (e e2 : StateValue Inner Chan) → Ends rules interval limit step s notes e → Ends rules interval limit step s notes2 e2 → (notes ≡ notes2) × (e ≡ e2)
    one_end _ _ _ _ (at_once at) (at_once at2) = (refl, refl)
    one_end _ notes2 _ e2 (at_once at) (later goes on) = let a = counted goes in let low = below a.0 notes2 e2 a.1 in absurd (omega arith)
    one_end notes _ e _ (later goes on) (at_once at) = let a = counted goes in let low = below a.0 notes e a.1 in absurd (omega arith)
    one_end notes notes2 e e2 (later goes on) (later goes2 on2) = same_end notes notes2 e e2 goes on goes2 on2

  only_pieces : (quantum : ℕ) → IsOnly (IsBoundedBy rules (IsPieces rules quantum))
  only_pieces quantum notes k s added added2 e e2 a b =
      let same = one_outcome rules quantum k s a.drift b.drift e e2 a.of_kind b.of_kind in
      (a.noted ∙ ap (λ d. Bounded k d (scan_of rules d) ∷ []) same.0 ∙ sym b.noted, same.1)

  pub one_run : AllOneRun rules
  one_run quantum interval limit s notes notes2 e e2 a b = one_end interval limit (IsBoundedBy rules (IsPieces rules quantum)) (only_pieces quantum) s notes notes2 e e2 a b
