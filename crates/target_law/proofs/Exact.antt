-- Runs by steps that are lockstep's.
use Rattle.std.proofs.Common.{◌≡◌, ◌∙◌, ℕ, ◌+◌, ◌-◌, ◌<◌, ◌≤◌, ◌++◌, ◌==◌, true, false, zero, List, [], IsTrue, IsFalse, min, suc, sym, refl, ap, subst, arith, ⊎_elim}
use Rattle.std.proofs.lemmas.Bool.Decides.{nat_tests}
use Rattle.slack_base.specs.declared.notes.Interval.{Interval}
use Rattle.target_law.specs.Cycles.{StateValue, lockstep, IsLockstepOf}
use Rattle.target_law.specs.Rules.{Rules}
use Rattle.target_law.specs.Runs.{IsExact, Goes, first, next, Ends, at_once, later, IsExactEnd, AllExactEnds, AllEndExactly, span}
use Rattle.target_law.specs.Stops.{checkpoint, is_over, is_over_after}
use Rattle.target_law.proofs.Lockstep.{clock-lockstep, lockstep-add, lockstep_later, lockstep_none}
use Rattle.target_law.proofs.Running.{next_checkpoint, same_number, other_number, over_after, earlier}

equal : (a b : ℕ) → (a == b) ≡ true → a ≡ b
equal a b e = grind (arith, nat_tests)

below : (a b : ℕ) → a ≤ b → (a == b) ≡ false → a < b
below a b le e = grind (arith, nat_tests)

module _ {Inner Chan : Type 0} (rules : Rules Inner Chan) (interval limit : ℕ) (s : StateValue Inner Chan) where
  -- after one interval or more, of which only the last may have ended the run
  record IsThere (notes : List Interval) (e : StateValue Inner Chan) : Type 0 where
    intervals : ℕ
    begun : s.clock ≤ e.clock
    low : e.clock ≤ limit
    is : e.clock ≡ checkpoint interval limit s.clock (suc intervals)
    end : IsLockstepOf rules s e
    before : (i : ℕ) → i < suc intervals → IsFalse (is_over_after rules interval limit s i)
    silent : notes ≡ []

  -- the clock after the next interval
  clock_after : (m e : StateValue Inner Chan) → m.clock ≤ limit → e ≡ lockstep rules m (span interval limit m) → e.clock ≡ min (m.clock + interval) limit
  clock_after m e le is =
      ap (λ (r : StateValue Inner Chan). r.clock) is ∙ clock-lockstep rules m (span interval limit m) ∙ next_checkpoint m.clock interval limit le

  over_there : (m : StateValue Inner Chan) (n : ℕ) → s.clock ≤ m.clock → m.clock ≡ checkpoint interval limit s.clock (suc n) → IsLockstepOf rules s m
      → is_over_after rules interval limit s (suc n) ≡ is_over rules limit m
  over_there m n le e is = over_after rules interval limit s n m.clock m le e is

  there : {notes : List Interval} {e : StateValue Inner Chan} → Goes rules interval limit (IsExact rules) s notes e → IsThere notes e
  there (first {notes = notes} {e = e} low step) =
      let clock = clock_after s e (omega arith) step.end in
      let begun : s.clock ≤ e.clock = omega arith in
      record {
        intervals = 0;
        begun = begun;
        low = omega arith;
        is = clock;
        end = lockstep_later rules s s e s.clock e.clock (omega arith) begun (lockstep_none rules s (s.clock - s.clock) (omega arith)) (step.end ∙ ap (lockstep rules s) (omega arith));
        before = λ i lt. let none : i ≡ 0 = omega arith in subst (λ n. IsFalse (is_over_after rules interval limit s n)) (sym none) (other_number s.clock limit low);
        silent = step.silent;
      }
  there (next {notes = notes} {added = added} {m = m} {e = e} goes on step) =
      let far = there goes in
      let low = far.low in
      let begun = far.begun in
      let clock = clock_after m e low step.end in
      let more : m.clock ≤ e.clock = omega arith in
      record {
        intervals = suc far.intervals;
        begun = omega arith;
        low = omega arith;
        is = clock ∙ ap (λ n. min (n + interval) limit) far.is;
        end = lockstep_later rules s m e m.clock e.clock begun more far.end (step.end ∙ ap (lockstep rules m) (omega arith));
        before = λ i lt. ⊎_elim (λ l. far.before i l)
            (λ same. subst (λ n. IsFalse (is_over_after rules interval limit s n)) (sym same) (over_there m far.intervals begun far.is far.end ∙ on))
            (earlier i (suc far.intervals) lt);
        silent = ap (λ xs. xs ++ added) far.silent ∙ step.silent;
      }

  pub exact_end : (notes : List Interval) (e : StateValue Inner Chan) → Ends rules interval limit (IsExact rules) s notes e → IsExactEnd rules interval limit s notes e
  exact_end notes e (at_once limit_is) = record {
    stops = record { intervals = 0; at = refl; over = same_number s.clock limit limit_is; first = λ i lt. absurd (omega arith) };
    end = lockstep_none rules s (s.clock - s.clock) (omega arith);
    silent = refl;
  }
  exact_end notes e (later goes over) =
      let far = there goes in
      record {
        stops = record { intervals = suc far.intervals; at = far.is; over = over_there e far.intervals far.begun far.is far.end ∙ over; first = far.before };
        end = far.end;
        silent = far.silent;
      }

  -- checkpoints lie from the start to the limit
  record IsBetween (z : ℕ) : Type 0 where
    begun : s.clock ≤ z
    low : z ≤ limit

  between : (n : ℕ) → s.clock ≤ limit → IsBetween (checkpoint interval limit s.clock n)
  between zero le = record { begun = omega arith; low = le }
  between (suc n) le = let b = (between n le).begun in record { begun = omega arith; low = omega arith }

  clock_at : (z : ℕ) → s.clock ≤ z → (lockstep rules s (z - s.clock)).clock ≡ z
  clock_at z le = let k = z - s.clock in clock-lockstep rules s k ∙ (let back : s.clock + k ≡ z = omega arith in back)

  -- one interval more
  more_exact : (z after : ℕ) → s.clock ≤ z → z ≤ limit → after ≡ min (z + interval) limit → (m : StateValue Inner Chan) → m ≡ lockstep rules s (z - s.clock)
      → IsExact rules [] (span interval limit m) m [] (lockstep rules s (after - s.clock))
  more_exact z after begun low is m at =
      let clock : m.clock ≡ z = ap (λ (r : StateValue Inner Chan). r.clock) at ∙ clock_at z begun in
      let k = z - s.clock in
      let j = span interval limit m in
      let sum : after - s.clock ≡ k + j = omega arith in
      record { silent = refl; end = ap (lockstep rules s) sum ∙ sym (lockstep-add rules s k j) ∙ ap (λ r. lockstep rules r j) (sym at) }

  goes_to : (n : ℕ) → s.clock ≤ limit → ((i : ℕ) → i < suc n → IsFalse (is_over_after rules interval limit s i))
      → Goes rules interval limit (IsExact rules) s [] (lockstep rules s (checkpoint interval limit s.clock (suc n) - s.clock))
  goes_to zero le on =
      first (below s.clock limit le (on 0 (omega arith)))
      (more_exact s.clock (checkpoint interval limit s.clock 1) (omega arith) le refl s (lockstep_none rules s (s.clock - s.clock) (omega arith)))
  goes_to (suc n) le on =
      let z = checkpoint interval limit s.clock (suc n) in
      let b = between (suc n) le in
      next {notes = []} {added = []} (goes_to n le (λ i lt. on i (omega arith))) (on (suc n) (omega arith))
      (more_exact z (checkpoint interval limit s.clock (suc (suc n))) b.begun b.low refl (lockstep rules s (z - s.clock)) refl)

  ends_at : (n : ℕ) → s.clock ≤ limit → IsTrue (is_over_after rules interval limit s n) → ((i : ℕ) → i < n → IsFalse (is_over_after rules interval limit s i))
      → Ends rules interval limit (IsExact rules) s [] (lockstep rules s (checkpoint interval limit s.clock n - s.clock))
  ends_at zero le over on =
      subst (Ends rules interval limit (IsExact rules) s []) (lockstep_none rules s (s.clock - s.clock) (omega arith)) (at_once (equal s.clock limit over))
  ends_at (suc n) le over on = later (goes_to n le on) over

  pub ends_exactly : (notes : List Interval) (e : StateValue Inner Chan) → s.clock ≤ limit → IsExactEnd rules interval limit s notes e → Ends rules interval limit (IsExact rules) s notes e
  ends_exactly notes e le is =
      let stops = is.stops in
      let at : lockstep rules s (checkpoint interval limit s.clock stops.intervals - s.clock) ≡ e = ap (λ z. lockstep rules s (z - s.clock)) (sym stops.at) ∙ sym is.end in
      subst (λ ns. Ends rules interval limit (IsExact rules) s ns e) (sym is.silent)
      (subst (Ends rules interval limit (IsExact rules) s []) at (ends_at stops.intervals le stops.over stops.first))

pub all_exact_ends : {Inner Chan : Type 0} (rules : Rules Inner Chan) → AllExactEnds rules
all_exact_ends rules interval limit s notes e ends = exact_end rules interval limit s notes e ends

pub all_end_exactly : {Inner Chan : Type 0} (rules : Rules Inner Chan) → AllEndExactly rules
all_end_exactly rules interval limit s notes e le is = ends_exactly rules interval limit s notes e le is
