-- A speculative run goes where a run cycle by cycle goes, and its notes have all of its cycles.
use Rattle.std.proofs.Common.{◌≡◌, ◌∙◌, ℕ, ◌+◌, ◌-◌, ◌*◌, ◌<◌, ◌≤◌, List, [], ◌∷◌, ◌++◌, sum_by, refl, sym, ap, subst, add-zero, arith}
use Rattle.std.proofs.Math.Nat.{mul-le-mul_left, mul-le-mul_right}
use Rattle.std.proofs.lemmas.List.Sums.{sum_by-cons, sum_by-append}
use Rattle.io_edge.specs.Holds.{Holds}
use Rattle.slack_base.specs.declared.bounds.TheConstants.{TOP}
use Rattle.slack_base.specs.declared.notes.Interval.{Interval}
use Rattle.slack_base.specs.declared.notes.Interval.TheVariants.{Kept, Rolled}
use Rattle.target_law.specs.Cycles.{StateValue}
use Rattle.target_law.specs.Rules.{Rules}
use Rattle.target_law.specs.Runs.{IsExact, Goes, first, next, at_once, later, span}
use Rattle.target_law.specs.Ticks.{cycles_of, replayed_of, drift_ticks_of, replay_ticks_of}
use Rattle.target_law.proofs.Counting.{replayed_within}
use Rattle.target_law.proofs.Exact.{exact_end}
use Rattle.target_law.proofs.Lockstep.{clock-lockstep}
use Rattle.target_law.proofs.Ways.{IsOnItsWay, goes_further}
use Rattle.violation_watch.specs.Scan.{scan_of}
use Rattle.spec_run.specs.LockstepEnds.{IsLockstepAt}
use Rattle.spec_run.specs.Speculative.{IsNoted, kept, rolled, IsSpeculated, IsSpeculativeRun}

-- there is a core, so the limit is within the range of clocks
pub limit_within : (cores limit : ℕ) → 1 ≤ cores → cores * limit ≤ TOP → limit ≤ TOP
limit_within cores limit some few = let most = mul-le-mul_left limit some in omega (arith, most, few)

module _ {Inner Chan : Type 0} (rules : Rules Inner Chan) (holds : Holds) (slack interval limit : ℕ) (s : StateValue Inner Chan) where
  goes_exactly : {notes : List Interval} {e : StateValue Inner Chan} → Goes rules interval limit (IsSpeculated rules holds slack) s notes e → Goes rules interval limit (IsExact rules) s [] e
  goes_exactly (first low step) = first low (record { silent = refl; end = step.end })
  goes_exactly (next goes on step) = next {notes = []} {added = []} (goes_exactly goes) on (record { silent = refl; end = step.end })

  -- it ends in the state of lockstep, where a run cycle by cycle stops
  pub ends_exactly : (notes : List Interval) (e : StateValue Inner Chan) → IsSpeculativeRun rules holds slack interval limit s notes e → IsLockstepAt rules interval limit s e
  ends_exactly _ _ (at_once at) = let exact = exact_end rules interval limit s [] s (at_once at) in record { state = exact.end; stops = exact.stops }
  ends_exactly _ e (later goes over) = let exact = exact_end rules interval limit s [] e (later (goes_exactly goes) over) in record { state = exact.end; stops = exact.stops }

  noted_cycles : (k : ℕ) (m : StateValue Inner Chan) (added : List Interval) → IsNoted rules holds slack k m added → sum_by cycles_of added ≡ k
  unfolding cycles_of
  noted_cycles k m added (kept free is) = ap (sum_by cycles_of) is ∙ sum_by-cons cycles_of (Kept k) [] ∙ add-zero k
  noted_cycles k m added (rolled {d = d} is) =
      ap (sum_by cycles_of) is.noted ∙ sum_by-cons cycles_of (Rolled k d (scan_of rules d)) [] ∙ add-zero k

  -- the cycles of the notes are those from the start to the end, which isn't past the limit
  pub record HasCycles (notes : List Interval) (e : StateValue Inner Chan) : Type 0 where
    pub sum : s.clock + sum_by cycles_of notes ≡ e.clock
    pub low : e.clock ≤ limit

  goes_cycles : {notes : List Interval} {e : StateValue Inner Chan} → Goes rules interval limit (IsSpeculated rules holds slack) s notes e → HasCycles notes e
  goes_cycles (first {notes = notes} {e = e} low step) =
      let k = span interval limit s in
      let sum = noted_cycles k s notes step.noted in
      let clock = ap (λ (r : StateValue Inner Chan). r.clock) step.end ∙ clock-lockstep rules s k in
      record { sum = omega (arith, sum, clock); low = omega (arith, clock) }
  goes_cycles (next {notes = notes} {added = added} {m = m} {e = e} goes on step) =
      let before = goes_cycles goes in
      let k = span interval limit m in
      let sum = noted_cycles k m added step.noted in
      let clock = ap (λ (r : StateValue Inner Chan). r.clock) step.end ∙ clock-lockstep rules m k in
      let all = sum_by-append cycles_of notes added in
      let old = before.sum in
      let low = before.low in
      record { sum = omega (arith, sum, clock, all, old); low = omega (arith, clock, low) }

  pub run_cycles : (notes : List Interval) (e : StateValue Inner Chan) → IsSpeculativeRun rules holds slack interval limit s notes e → HasCycles notes e
  run_cycles _ _ (at_once at) = record { sum = omega arith; low = omega arith }
  run_cycles _ _ (later goes over) = goes_cycles goes

  -- one interval more
  pub speculated : (notes more : List Interval) (k : ℕ) (m e : StateValue Inner Chan) (note : Interval)
      → IsOnItsWay rules interval limit (IsSpeculated rules holds slack) s notes m → m.clock < limit → k ≡ span interval limit m
      → IsSpeculated rules holds slack [] k m (note ∷ []) e → more ≡ notes ++ note ∷ [] → Goes rules interval limit (IsSpeculated rules holds slack) s more e
  speculated notes more k m e note way low so is pushed =
      subst (λ ns. Goes rules interval limit (IsSpeculated rules holds slack) s ns e) (sym pushed)
      (goes_further rules interval limit (IsSpeculated rules holds slack) s notes (note ∷ []) k m e way low so (record { end = is.end; noted = is.noted }))

  -- what the counts of ticks come to
  pub record AreCounted (notes : List Interval) (e : StateValue Inner Chan) : Type 0 where
    pub cycles : sum_by cycles_of notes < 18446744073709551616
    pub replayed : sum_by replayed_of notes < 18446744073709551616
    pub drift_ticks : drift_ticks_of rules.cores notes < 18446744073709551616
    pub replay_ticks : replay_ticks_of rules.cores notes < 18446744073709551616
    pub sum : drift_ticks_of rules.cores notes ≡ rules.cores * (e.clock - s.clock)

  pub counted : (notes : List Interval) (e : StateValue Inner Chan) → 1 ≤ rules.cores → rules.cores * limit ≤ TOP → IsSpeculativeRun rules holds slack interval limit s notes e → AreCounted notes e
  counted notes e some few run =
      let has = run_cycles notes e run in
      let sum = has.sum in
      let low = has.low in
      let all : sum_by cycles_of notes ≤ limit = omega (arith, sum, low) in
      let again : sum_by replayed_of notes ≤ limit = let once = replayed_within notes in omega (arith, all, once) in
      let top = limit_within rules.cores limit some few in
      let drifts = mul-le-mul_right rules.cores all in
      let replays = mul-le-mul_right rules.cores again in
      record {
        cycles = omega (arith, all, top);
        replayed = omega (arith, again, top);
        drift_ticks = omega (arith, drifts, few);
        replay_ticks = omega (arith, replays, few);
        sum = ap (λ n. rules.cores * n) (omega (arith, sum));
      }

-- the clock that an interval comes to
pub clock_after : {Inner Chan : Type 0} (rules : Rules Inner Chan) (holds : Holds) (slack k : ℕ) (m e : StateValue Inner Chan) (notes added : List Interval)
    → IsSpeculated rules holds slack notes k m added e → e.clock ≡ m.clock + k
clock_after {Inner = Inner} {Chan = Chan} rules holds slack k m e notes added is = ap (λ (r : StateValue Inner Chan). r.clock) is.end ∙ clock-lockstep rules m k
