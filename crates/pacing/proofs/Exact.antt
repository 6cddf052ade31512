-- Runs of which the monitors record nothing: each interval goes as lockstep does, so the run is one cycle by cycle. In short
-- pieces they record nothing.
use Rattle.std.proofs.Common.{◌≡◌, ◌∙◌, ℕ, ◌+◌, ◌-◌, ◌≤◌, List, [], ◌∷◌, ◌++◌, refl, sym, ap, subst, arith}
use Rattle.std.specs.List.{All, AllByRecursion as Each}
use Rattle.std.specs.List.Sorted.{IsPermutation}
use Rattle.std.proofs.lemmas.List.Elements.{recursion_from_All, All-from_recursion}
use Rattle.slack_base.specs.declared.bounds.TheConstants.{TOP}
use Rattle.slack_base.specs.declared.histories.Drift.{Drift}
use Rattle.slack_base.specs.declared.histories.Violation.{Violation}
use Rattle.slack_base.specs.declared.notes.Interval.{Interval}
use Rattle.slack_base.specs.declared.notes.Interval.TheVariants.{Bounded}
use Rattle.target_law.specs.Cycles.{StateValue, lockstep, asks}
use Rattle.target_law.specs.Laws.{Laws}
use Rattle.target_law.specs.Proper.{IsProper, IsPunctual}
use Rattle.target_law.specs.Rules.{Rules, Owns}
use Rattle.target_law.specs.Runs.{IsExact, Goes, first, next, Ends, at_once, later, span}
use Rattle.target_law.specs.Ticks.{cycles_of}
use Rattle.target_law.proofs.Exact.{exact_end}
use Rattle.target_law.proofs.Lists.{each_append}
use Rattle.target_law.proofs.Lockstep.{clock-lockstep}
use Rattle.target_law.proofs.Punctual.{punctual_after}
use Rattle.violation_watch.specs.BoundedNotes.{Kind, IsBoundedBy}
use Rattle.violation_watch.specs.Scan.{scan_of}
use Rattle.violation_watch.proofs.Join.{complete}
use Rattle.pacing.specs.Exact.{seen_of, HaveServed, IsExactRun, IsExactIfQuiet, IsQuietRun, IsQuietIfShort}
use Rattle.pacing.specs.Pieces.{IsPieces}
use Rattle.pacing.proofs.Ending.{pieces_drift}
use Rattle.pacing.proofs.Quiet.{all_quiet}

-- nothing was recorded in the interval
abbrev IsQuiet : Interval → Type 0
IsQuiet note = seen_of note ≡ []

each_before : (P : Interval → Type 0) (xs ys : List Interval) → Each P (xs ++ ys) → Each P xs
each_before P [] ys h = tt
each_before P (x ∷ xs) ys h = (h.0, each_before P xs ys h.1)

each_behind : (P : Interval → Type 0) (xs ys : List Interval) → Each P (xs ++ ys) → Each P ys
each_behind P [] ys h = h
each_behind P (x ∷ xs) ys h = each_behind P xs ys h.1

module _ {Inner Chan : Type 0} (rules : Rules Inner Chan) where
  -- the state of lockstep after the cycles of these intervals
  abbrev after : StateValue Inner Chan → List Interval → StateValue Inner Chan
  after s [] = s
  after s (note ∷ notes) = after (lockstep rules s (cycles_of note)) notes

  after-append : (s : StateValue Inner Chan) (notes added : List Interval) → after s (notes ++ added) ≡ after (after s notes) added
  after-append s [] added = refl
  after-append s (note ∷ notes) added = after-append (lockstep rules s (cycles_of note)) notes added

  served-append : (s : StateValue Inner Chan) (notes added : List Interval) → HaveServed rules s notes → HaveServed rules (after s notes) added → HaveServed rules s (notes ++ added)
  served-append s [] added h more = more
  served-append s (note ∷ notes) added h more = (h.0, served-append (lockstep rules s (cycles_of note)) notes added h.1 more)

  -- of one interval
  after_one : (s : StateValue Inner Chan) (k : ℕ) (d : Drift) (seen : List Violation) → lockstep rules s k ≡ after s (Bounded k d seen ∷ [])
  unfolding cycles_of
  after_one s k d seen = refl

  served_one : (s : StateValue Inner Chan) (k : ℕ) (d : Drift) (seen : List Violation) → IsPermutation d.served (asks rules s k) → HaveServed rules s (Bounded k d seen ∷ [])
  unfolding cycles_of
  served_one s k d seen h = (h, tt)

module _ {Inner Chan : Type 0} (rules : Rules Inner Chan) (owns : Owns Inner Chan) (laws : Laws rules owns) where
  -- drifts that end in proper states
  abbrev Keeps : Kind rules → Type 0
  Keeps kind = (k : ℕ) (s : StateValue Inner Chan) (d : Drift) (e : StateValue Inner Chan) → IsProper rules owns s → s.clock + k ≤ TOP → kind k s d e → IsProper rules owns e

  module _ (kind : Kind rules) (keeps : Keeps kind) where
    -- an interval that went as lockstep does
    record IsExactStep (k : ℕ) (s : StateValue Inner Chan) (added : List Interval) (e : StateValue Inner Chan) : Type 0 where
      end : e ≡ lockstep rules s k
      at : e ≡ after rules s added
      served : HaveServed rules s added

    exact_step : (notes : List Interval) (k : ℕ) (s : StateValue Inner Chan) (added : List Interval) (e : StateValue Inner Chan) → IsProper rules owns s → s.clock + k ≤ TOP
        → IsBoundedBy rules kind notes k s added e → Each IsQuiet added → IsExactStep k s added e
    exact_step notes k s added e proper top is quiet =
        let d = is.drift in
        let none : scan_of rules d ≡ [] = (subst (Each IsQuiet) is.noted quiet).0 in
        let start = is.fits.start in
        let long = is.len in
        let clock = is.fits.clock in
        let lockstep_is = complete rules owns laws s d e proper is.fits (omega arith) none in
        let end : e ≡ lockstep rules s k = lockstep_is.end ∙ ap (lockstep rules s) long in
        record {
          end = end;
          at = subst (λ ns. e ≡ after rules s ns) (sym is.noted) (end ∙ after_one rules s k d (scan_of rules d));
          served = subst (HaveServed rules s) (sym is.noted)
              (served_one rules s k d (scan_of rules d) (subst (λ n. IsPermutation d.served (asks rules s n)) long lockstep_is.served));
        }

    module _ (interval limit : ℕ) (top : limit ≤ TOP) (s : StateValue Inner Chan) (start : IsProper rules owns s) where
      -- after one interval or more
      record IsSoFar (notes : List Interval) (e : StateValue Inner Chan) : Type 0 where
        goes : Goes rules interval limit (IsExact rules) s [] e
        low : e.clock ≤ limit
        proper : IsProper rules owns e
        at : e ≡ after rules s notes
        served : HaveServed rules s notes

      clock_of : (k : ℕ) (m e : StateValue Inner Chan) → e ≡ lockstep rules m k → e.clock ≡ m.clock + k
      clock_of k m e is = ap (λ (r : StateValue Inner Chan). r.clock) is ∙ clock-lockstep rules m k

      so_far : {notes : List Interval} {e : StateValue Inner Chan} → Goes rules interval limit (IsBoundedBy rules kind) s notes e → Each IsQuiet notes → IsSoFar notes e
      so_far (first {notes = notes} {e = e} low step) quiet =
          let k = span interval limit s in
          let is = exact_step [] k s notes e start (omega arith) step quiet in
          let clock = clock_of k s e is.end in
          record {
            goes = first low (record { silent = refl; end = is.end });
            low = omega arith;
            proper = keeps k s step.drift e start (omega arith) step.of_kind;
            at = is.at;
            served = is.served;
          }
      so_far (next {notes = notes} {added = added} {m = m} {e = e} goes on step) quiet =
          let before = so_far goes (each_before IsQuiet notes added quiet) in
          let k = span interval limit m in
          let low = before.low in
          let is = exact_step notes k m added e before.proper (omega arith) step (each_behind IsQuiet notes added quiet) in
          let clock = clock_of k m e is.end in
          record {
            goes = next {notes = []} {added = []} before.goes on (record { silent = refl; end = is.end });
            low = omega arith;
            proper = keeps k m step.drift e before.proper (omega arith) step.of_kind;
            at = is.at ∙ ap (λ r. after rules r added) before.at ∙ sym (after-append rules s notes added);
            served = served-append rules s notes added before.served (subst (λ r. HaveServed rules r added) before.at is.served);
          }

      exact_ends : (notes : List Interval) (e : StateValue Inner Chan) → Ends rules interval limit (IsBoundedBy rules kind) s notes e → Each IsQuiet notes → IsExactRun rules interval limit s notes e
      exact_ends notes e (at_once at) quiet =
          let exact = exact_end rules interval limit s [] s (at_once at) in
          record { stops = exact.stops; end = exact.end; served = tt }
      exact_ends notes e (later goes over) quiet =
          let far = so_far goes quiet in
          let exact = exact_end rules interval limit s [] e (later far.goes over) in
          record { stops = exact.stops; end = exact.end; served = far.served }

    pub exact_if_quiet : (interval limit : ℕ) (s : StateValue Inner Chan) (notes : List Interval) (e : StateValue Inner Chan) → limit ≤ TOP → IsProper rules owns s
        → Ends rules interval limit (IsBoundedBy rules kind) s notes e → IsExactIfQuiet rules interval limit s notes e
    exact_if_quiet interval limit s notes e top start run quiet = exact_ends interval limit top s start notes e run (recursion_from_All IsQuiet notes quiet)

  module _ (quantum : ℕ) where
    pub pieces_keep : Keeps (IsPieces rules quantum)
    pieces_keep k s d e proper top is = (pieces_drift rules owns laws s quantum k d e proper top is).proper

    module _ (short : quantum ≤ rules.lookahead) (interval limit : ℕ) (top : limit ≤ TOP) (s : StateValue Inner Chan) (start : IsProper rules owns s) where
      -- after one interval or more
      record IsQuietSoFar (notes : List Interval) (e : StateValue Inner Chan) : Type 0 where
        begun : s.clock ≤ e.clock
        low : e.clock ≤ limit
        proper : IsProper rules owns e
        quiet : Each IsQuiet notes

      quiet_step : (notes : List Interval) (k : ℕ) (m : StateValue Inner Chan) (added : List Interval) (e : StateValue Inner Chan) → IsProper rules owns m → m.clock + k ≤ TOP
          → IsBoundedBy rules (IsPieces rules quantum) notes k m added e → Each IsQuiet added
      quiet_step notes k m added e proper top is =
          subst (Each IsQuiet) (sym is.noted) (all_quiet rules owns laws quantum k m is.drift e proper top short is.of_kind, tt)

      quiet_so_far : {notes : List Interval} {e : StateValue Inner Chan} → Goes rules interval limit (IsBoundedBy rules (IsPieces rules quantum)) s notes e → IsQuietSoFar notes e
      quiet_so_far (first {notes = notes} {e = e} low step) =
          let k = span interval limit s in
          let from = step.fits.start in
          let long = step.len in
          let clock = step.fits.clock in
          record {
            begun = omega arith;
            low = omega arith;
            proper = pieces_keep k s step.drift e start (omega arith) step.of_kind;
            quiet = quiet_step [] k s notes e start (omega arith) step;
          }
      quiet_so_far (next {notes = notes} {added = added} {m = m} {e = e} goes on step) =
          let before = quiet_so_far goes in
          let k = span interval limit m in
          let begun = before.begun in
          let low = before.low in
          let from = step.fits.start in
          let long = step.len in
          let clock = step.fits.clock in
          record {
            begun = omega arith;
            low = omega arith;
            proper = pieces_keep k m step.drift e before.proper (omega arith) step.of_kind;
            quiet = each_append IsQuiet notes added before.quiet (quiet_step notes k m added e before.proper (omega arith) step);
          }

      quiet_run : (notes : List Interval) (e : StateValue Inner Chan) → Ends rules interval limit (IsBoundedBy rules (IsPieces rules quantum)) s notes e
          → Each IsQuiet notes → s.clock ≤ e.clock → e.clock ≤ limit → IsQuietRun rules interval limit s notes e
      quiet_run notes e run quiet begun low =
          let exact = exact_ends (IsPieces rules quantum) pieces_keep interval limit top s start notes e run quiet in
          record {
            quiet = All-from_recursion IsQuiet notes quiet;
            exact = exact;
            punctual = λ fresh. subst IsPunctual (sym exact.end) (punctual_after rules owns laws (e.clock - s.clock) s start fresh (omega arith));
          }

      quiet_ends : (notes : List Interval) (e : StateValue Inner Chan) → Ends rules interval limit (IsBoundedBy rules (IsPieces rules quantum)) s notes e → IsQuietRun rules interval limit s notes e
      quiet_ends notes e (at_once at) = quiet_run [] s (at_once at) tt (omega arith) (omega arith)
      quiet_ends notes e (later goes over) = let far = quiet_so_far goes in quiet_run notes e (later goes over) far.quiet far.begun far.low

    pub quiet_if_short : (interval limit : ℕ) (s : StateValue Inner Chan) (notes : List Interval) (e : StateValue Inner Chan) → limit ≤ TOP → IsProper rules owns s
        → Ends rules interval limit (IsBoundedBy rules (IsPieces rules quantum)) s notes e → IsQuietIfShort rules interval limit quantum s notes e
    quiet_if_short interval limit s notes e top start run short = quiet_ends short interval limit top s start notes e run
