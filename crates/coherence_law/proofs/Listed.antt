-- The list of the broken lines has all of them, and no other, in rising order.
use Rattle.std.proofs.Common.{◌≡◌, ◌∙◌, ℕ, zero, suc, ◌+◌, ◌<◌, ◌≤◌, Bool, true, not, List, ◌∷◌, All, AllPairs, Contains, filter, get_or, sym, ap, inl, inr, arith}
use Rattle.std.specs.List.{range_with_len}
use Rattle.std.proofs.lemmas.Bool.{cases_eq, cases_Bool, false≢true, not-true}
use Rattle.std.proofs.lemmas.List.Elements.{All-nil, All-cons, All-weaker, All-filter, filter_passes}
use Rattle.std.proofs.lemmas.List.Kept.{AllPairs-cons}
use Rattle.bus_model.specs.Channels.{ChannelValue}
use Rattle.timed_core.specs.Cores.{HartValue}
use Rattle.target_law.specs.Cycles.{StateValue}
use Rattle.coherence_law.specs.Breaks.{is_coherent, lines_in, breaks_of, IsBroken, AllListed}
use Rattle.coherence_law.proofs.Testing.{all_tests}

abbrev IsBetween : (from count n : ℕ) → Type 0
IsBetween from count n = (from ≤ n) × (n < from + count)

module _ (p : ℕ → Bool) where
  range_between : (from count : ℕ) → All (IsBetween from count) (range_with_len from count)
  range_between from zero = All-nil (IsBetween from 0)
  range_between from (suc count) =
      All-cons (IsBetween from (suc count)) from (range_with_len (from + 1) count) (omega arith, omega arith)
      (All-weaker (IsBetween (from + 1) count) (IsBetween from (suc count)) (λ n h. (omega arith, omega arith)) (range_with_len (from + 1) count) (range_between (from + 1) count))

  filter_between : (from count : ℕ) → All (IsBetween from count) (filter p (range_with_len from count))
  filter_between from count = All-filter p (IsBetween from count) (range_with_len from count) (range_between from count)

  filter_rises : (from count : ℕ) → AllPairs (λ low high. low < high) (filter p (range_with_len from count))
  filter_rises from zero = λ i j d before within. absurd (omega arith)
  filter_rises from (suc count) = elim (cases_Bool (p from)) [
    | inl y ↦ rw y
        (AllPairs-cons (λ low high. low < high) from (filter p (range_with_len (from + 1) count))
        (All-weaker (IsBetween (from + 1) count) (λ n. from < n) (λ n h. omega arith) (filter p (range_with_len (from + 1) count)) (filter_between (from + 1) count))
        (filter_rises (from + 1) count))
    | inr n ↦ rw n (filter_rises (from + 1) count)
  ]

  later_too : (x n : ℕ) (xs : List ℕ) → Contains xs n → Contains (x ∷ xs) n
  later_too x n xs h = (suc h.0, omega (arith, h.1), h.2)

  filter_has : (from count n : ℕ) → IsBetween from count n → p n ≡ true → Contains (filter p (range_with_len from count)) n
  filter_has from zero n between y = absurd (omega arith)
  filter_has from (suc count) n between y = elim (cases_eq n from) [
    | inl same ↦
        let here : p from ≡ true = ap p (sym same) ∙ y in
        rw here (0, omega arith, sym same)
    | inr other ↦
        let later = filter_has (from + 1) count n (omega arith, omega arith) y in
        elim (cases_Bool (p from)) [
          | inl t ↦ rw t (later_too from n (filter p (range_with_len (from + 1) count)) later)
          | inr t ↦ rw t later
        ]
  ]

module _ (m : StateValue HartValue ChannelValue) where
  abbrev fails : ℕ → Bool
  fails line = not (is_coherent m line)

  broken_from_test : (line : ℕ) → line < lines_in m.chans → fails line ≡ true → IsBroken m line
  broken_from_test line inside fails = record {
    inside = inside;
    broken = λ is. false≢true (sym (not-true (is_coherent m line) fails) ∙ (all_tests m line).complete is);
  }

  test_from_broken : (line : ℕ) → IsBroken m line → fails line ≡ true
  test_from_broken line is = elim (cases_Bool (is_coherent m line)) [
    | inl y ↦ absurd (is.broken ((all_tests m line).sound y))
    | inr n ↦ ap not n
  ]

  each_broken : All (IsBroken m) (breaks_of m)
  each_broken i d within =
      let inside = filter_between fails 0 (lines_in m.chans) i d within in
      broken_from_test (get_or (breaks_of m) i d) (omega (arith, inside.1)) (filter_passes fails (range_with_len 0 (lines_in m.chans)) i d within)

pub all_listed : AllListed
all_listed m = record {
  rising = filter_rises (fails m) 0 (lines_in m.chans);
  each = each_broken m;
  all = λ line is. filter_has (fails m) 0 (lines_in m.chans) line (omega arith, omega (arith, is.inside)) (test_from_broken m line is);
}
