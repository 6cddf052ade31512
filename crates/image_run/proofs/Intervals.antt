-- A run of one interval, and the cycles of notes.
use Rattle.std.proofs.Common.{◌≡◌, ◌∙◌, ℕ, ◌+◌, ◌-◌, ◌<◌, ◌≤◌, ◌||◌, List, [], ◌++◌, sum_by, ap, subst, arith}
use Rattle.std.proofs.lemmas.List.Sums.{sum_by-cons, sum_by-append}
use Rattle.slack_base.specs.declared.notes.Interval.{Interval}
use Rattle.slack_base.specs.declared.notes.Interval.TheVariants.{Bounded}
use Rattle.target_law.specs.Cycles.{StateValue, all_ended}
use Rattle.target_law.specs.Rules.{Rules}
use Rattle.target_law.specs.Runs.{Ends, Goes, first, next, at_once, later, span}
use Rattle.target_law.proofs.Running.{same_number}
use Rattle.violation_watch.specs.BoundedNotes.{Kind, IsBoundedBy}
use Rattle.violation_watch.specs.Scan.{scan_of}
use Rattle.target_law.specs.Ticks.{cycles_of}

module _ {Inner Chan : Type 0} (rules : Rules Inner Chan) (kind : Kind rules) where
  -- one interval that comes to the limit is a whole run
  pub one_interval : (interval limit k : ℕ) (s : StateValue Inner Chan) (notes : List Interval) (e : StateValue Inner Chan)
      → s.clock < limit → limit ≤ s.clock + interval → k ≡ limit - s.clock → IsBoundedBy rules kind [] k s notes e
      → Ends rules interval limit (IsBoundedBy rules kind) s notes e
  one_interval interval limit k s notes e low one so is =
      let same : k ≡ span interval limit s = omega arith in
      let start : is.drift.start ≡ s.clock = is.fits.start in
      let len : is.drift.len ≡ k = is.len in
      let ends : e.clock ≡ is.drift.start + is.drift.len = is.fits.clock in
      let there : e.clock ≡ limit = omega arith in
      later (first low (subst (λ n. IsBoundedBy rules kind [] n s notes e) same is)) (ap (λ b. b || all_ended rules e) (same_number e.clock limit there))

  -- its note has its cycles
  pub cycles_of_one : (k : ℕ) (s : StateValue Inner Chan) (notes : List Interval) (e : StateValue Inner Chan) → IsBoundedBy rules kind [] k s notes e → sum_by cycles_of notes ≡ k
  unfolding cycles_of
  cycles_of_one k s notes e is =
      ap (sum_by cycles_of) is.noted ∙ sum_by-cons cycles_of (Bounded k is.drift (scan_of rules is.drift)) [] ∙ (let end : k + 0 ≡ k = omega arith in end)

module _ {Inner Chan : Type 0} (rules : Rules Inner Chan) (kind : Kind rules) (interval limit : ℕ) (s : StateValue Inner Chan) where
  -- so far the notes have as many cycles as the clock rose
  pub record IsCounted (notes : List Interval) (e : StateValue Inner Chan) : Type 0 where
    pub cycles : s.clock + sum_by cycles_of notes ≡ e.clock
    pub low : e.clock ≤ limit

  counted : {notes : List Interval} {e : StateValue Inner Chan} → Goes rules interval limit (IsBoundedBy rules kind) s notes e → IsCounted notes e
  counted (first {notes = notes} {e = e} low is) =
      let k = span interval limit s in
      let cycles = cycles_of_one rules kind k s notes e is in
      let start : is.drift.start ≡ s.clock = is.fits.start in
      let len : is.drift.len ≡ k = is.len in
      let ends : e.clock ≡ is.drift.start + is.drift.len = is.fits.clock in
      record { cycles = omega (arith, cycles); low = omega arith }
  counted (next {notes = notes} {added = added} {m = m} {e = e} goes on is) =
      let so_far = counted goes in
      let k = span interval limit m in
      let before : s.clock + sum_by cycles_of notes ≡ m.clock = so_far.cycles in
      let below : m.clock ≤ limit = so_far.low in
      let cycles : sum_by cycles_of added ≡ k = cycles_of_one rules kind k m added e (record { drift = is.drift; of_kind = is.of_kind; fits = is.fits; len = is.len; noted = is.noted }) in
      let both : sum_by cycles_of (notes ++ added) ≡ sum_by cycles_of notes + sum_by cycles_of added = sum_by-append cycles_of notes added in
      let start : is.drift.start ≡ m.clock = is.fits.start in
      let len : is.drift.len ≡ k = is.len in
      let ends : e.clock ≡ is.drift.start + is.drift.len = is.fits.clock in
      record { cycles = omega (arith, before, cycles, both, start, len, ends); low = omega (arith, below, start, len, ends) }

  -- and at the end of a run
  pub run_cycles : {notes : List Interval} {e : StateValue Inner Chan} → Ends rules interval limit (IsBoundedBy rules kind) s notes e → IsCounted notes e
  run_cycles (at_once same) = record { cycles = omega arith; low = omega arith }
  run_cycles (later goes over) = counted goes
