-- The test of a line says what coherence is, and the list of the lines that fail it.
use Rattle.std.proofs.Common.{cond, ◌==◌, ◌-◌, add-one, ◌≡◌, ◌≢◌, ◌∙◌, ℕ, zero, suc, ◌+◌, ◌<◌, ◌≤◌, Bool, true, false, not, Option, None, Some, List, [], ◌∷◌, filter, length, slice_get, nat_le, refl, sym, ap, inl, inr, arith}
use Rattle.std.specs.List.{range_with_len, list_all}
use Rattle.std.proofs.lemmas.Bool.{cases_Bool, eq-eqb, eqb-true, and_parts, and_from, or_left, or_right, or_cases, le-leb, leb-true, false≢true, not-true, not_from_false}
use Rattle.slack_base.specs.declared.messages.Words.{Words}
use Rattle.mesi_cache.specs.declared.lines.Held.{Held}
use Rattle.mesi_cache.specs.declared.lines.Held.TheVariants.{Shared, Exclusive, Modified}
use Rattle.mesi_cache.specs.declared.lines.HeldLine.{HeldLine}
use Rattle.bus_model.specs.Channels.{ChannelValue}
use Rattle.timed_core.specs.Accesses.{held_in}
use Rattle.timed_core.specs.Cores.{HartValue}
use Rattle.timed_core.specs.Posts.{is_modified}
use Rattle.target_law.specs.Cycles.{StateValue}
use Rattle.coherence_law.specs.Breaks.{are_same, are_these, is_in_memory, is_alone, is_true_to, is_coherent, AllTests}
use Rattle.coherence_law.specs.Coherent.{held_at, words_on, IsInMemory, IsCoherent}
use Rattle.coherence_law.proofs.Holders.{holders, any_writable, at_most_one, alone_is, one_held, writer_of, two_held, any_held, all_pass, each_passes}

same_words : (a b : Words) → a ≡ b → are_same a b ≡ true
same_words a b e =
    and_from (a.w0 == b.w0) _ (eq-eqb a.w0 b.w0 (ap (λ (w : Words). w.w0) e))
    (and_from (a.w1 == b.w1) _ (eq-eqb a.w1 b.w1 (ap (λ (w : Words). w.w1) e))
    (and_from (a.w2 == b.w2) (a.w3 == b.w3) (eq-eqb a.w2 b.w2 (ap (λ (w : Words). w.w2) e)) (eq-eqb a.w3 b.w3 (ap (λ (w : Words). w.w3) e))))

words_same : (a b : Words) → are_same a b ≡ true → a ≡ b
words_same a b e =
    let p = and_parts (a.w0 == b.w0) _ e in
    let q = and_parts (a.w1 == b.w1) _ p.1 in
    let r = and_parts (a.w2 == b.w2) (a.w3 == b.w3) q.1 in
    let at0 : a.w0 ≡ b.w0 = eqb-true a.w0 b.w0 p.0 in
    let at1 : a.w1 ≡ b.w1 = eqb-true a.w1 b.w1 q.0 in
    let at2 : a.w2 ≡ b.w2 = eqb-true a.w2 b.w2 r.0 in
    let at3 : a.w3 ≡ b.w3 = eqb-true a.w3 b.w3 r.1 in
    ap {B = Words} (λ x. record { w0 = x; w1 = a.w1; w2 = a.w2; w3 = a.w3 }) at0
    ∙ ap {B = Words} (λ x. record { w0 = b.w0; w1 = x; w2 = a.w2; w3 = a.w3 }) at1
    ∙ ap {B = Words} (λ x. record { w0 = b.w0; w1 = b.w1; w2 = x; w3 = a.w3 }) at2
    ∙ ap {B = Words} (λ x. record { w0 = b.w0; w1 = b.w1; w2 = b.w2; w3 = x }) at3

-- the test of the words that memory has
these_from : (words : Words) (o : Option Words) → o ≡ Some words → are_these words o ≡ true
these_from words None e = absurd (cc)
these_from words (Some others) e = let same : others ≡ words = cc in same_words others words same

from_these : (words : Words) (o : Option Words) → are_these words o ≡ true → o ≡ Some words
from_these words None e = absurd (false≢true e)
from_these words (Some others) e = ap Some (words_same others words e)

module _ (line : ℕ) (words : Words) where
  abbrev test : ChannelValue → Bool
  test chan = are_these words (words_on line chan)

  in_memory : (chans : List ChannelValue) (number : ℕ) (bus : ChannelValue) → slice_get chans number ≡ Some bus → words_on line bus ≡ Some words → is_in_memory chans line words ≡ true
  in_memory [] number bus at has = absurd (cc)
  in_memory (chan ∷ chans) zero bus at has =
      let same : chan ≡ bus = cc in
      or_left (test chan) (is_in_memory chans line words) (these_from words (words_on line chan) (ap (words_on line) same ∙ has))
  in_memory (chan ∷ chans) (suc number) bus at has = or_right (test chan) (is_in_memory chans line words) (in_memory chans number bus at has)

  -- a bus that has these words
  record IsThere (chans : List ChannelValue) : Type 0 where
    number : ℕ
    bus : ChannelValue
    at : slice_get chans number ≡ Some bus
    has : words_on line bus ≡ Some words

  found : (chans : List ChannelValue) → is_in_memory chans line words ≡ true → IsThere chans
  found [] e = absurd (false≢true e)
  found (chan ∷ chans) e = elim (or_cases (test chan) (is_in_memory chans line words) e) [
    | inl here ↦ record { number = 0; bus = chan; at = refl; has = from_these words (words_on line chan) here }
    | inr more ↦ let later = found chans more in record { number = suc later.number; bus = later.bus; at = later.at; has = later.has }
  ]

not_modified : (h : Held) → h ≢ Modified → is_modified h ≡ false
not_modified Shared n = refl
not_modified Exclusive n = refl
not_modified Modified n = absurd (n refl)

module _ (m : StateValue HartValue ChannelValue) (line : ℕ) where
  abbrev held : List HeldLine
  held = holders m.cores line

  abbrev few : Bool
  few = nat_le (length held) 1

  abbrev truth : Option HeldLine → Bool
  truth o = is_true_to m.chans line o

  abbrev all_true : Bool
  all_true = list_all (λ core. truth (held_in core.inner.cache line)) m.cores

  true_from : (h : HeldLine) → (h.held ≢ Modified → IsInMemory m line h.words) → truth (Some h) ≡ true
  true_from h same = elim (cases_Bool (is_modified h.held)) [
    | inl y ↦ or_left (is_modified h.held) (is_in_memory m.chans line h.words) y
    | inr n ↦
        let there = same (λ e. false≢true (sym n ∙ ap is_modified e)) in
        or_right (is_modified h.held) (is_in_memory m.chans line h.words) (in_memory line h.words m.chans there.number there.bus there.at there.has)
  ]

  -- a coherent line passes the test
  complete : IsCoherent m line → is_coherent m line ≡ true
  unfolding is_coherent
  complete is =
      let alone : at_most_one line held ≡ true = elim (cases_Bool (any_writable held)) [
        | inl y ↦ let w = writer_of line m.cores y in
            or_left few (not (any_writable held)) (le-leb (length held) 1 (one_held line m.cores w.core (λ k n. is.alone w.core k w.held w.holds w.may n)))
        | inr n ↦ or_right few (not (any_writable held)) (not_from_false (any_writable held) n)
      ] in
      and_from (is_alone m.cores line) all_true (alone_is line m.cores ∙ alone) (all_pass line truth refl m.cores (λ c h holds. true_from h (is.same c h holds)))

  other_none : (c k : ℕ) (h : HeldLine) → held_at m c line ≡ Some h → k ≢ c → length held ≤ 1 → (o : Option HeldLine) → held_at m k line ≡ o → o ≡ None
  other_none c k h e n one None is = refl
  other_none c k h e n one (Some g) is = let two = two_held line m.cores c k h g n e is in absurd (omega arith)

  -- a line that passes the test is coherent
  sound : is_coherent m line ≡ true → IsCoherent m line
  unfolding is_coherent
  sound test =
      let both = and_parts (is_alone m.cores line) all_true test in
      let alone : at_most_one line held ≡ true = sym (alone_is line m.cores) ∙ both.0 in
      record {
        alone = λ c k h holds may n. elim (or_cases few (not (any_writable held)) alone) [
          | inl one ↦ other_none c k h holds n (leb-true (length held) 1 one) (held_at m k line) refl
          | inr none ↦ absurd (false≢true (sym (not-true (any_writable held) none) ∙ any_held line m.cores c h holds may))
        ];
        same = λ c h holds clean. elim (or_cases (is_modified h.held) (is_in_memory m.chans line h.words) (each_passes line truth refl m.cores both.1 c h holds)) [
          | inl modified ↦ absurd (false≢true (sym (not_modified h.held clean) ∙ modified))
          | inr there ↦ let f = found line h.words m.chans there in record { number = f.number; bus = f.bus; at = f.at; has = f.has }
        ];
      }

pub all_tests : AllTests
all_tests m line = record { complete = complete m line; sound = sound m line }

-- the broken lines from one on, below an end
abbrev pub broken_from : (ℕ → Bool) → ℕ → ℕ → List ℕ
broken_from q end place = filter (λ n. not (q n)) (range_with_len place (end - place))

module _ (q : ℕ → Bool) (end place : ℕ) where
  left : place < end → broken_from q end place ≡ cond (not (q place)) (place ∷ broken_from q end (place + 1)) (broken_from q end (place + 1))
  left some =
      let e : end - place ≡ suc (end - (place + 1)) = omega (arith, add-one (end - (place + 1))) in
      ap (λ n. filter (λ n. not (q n)) (range_with_len place n)) e

  pub broken_here : place < end → q place ≡ false → broken_from q end place ≡ place ∷ broken_from q end (place + 1)
  broken_here some fails = left some ∙ ap (λ b. cond (not b) (place ∷ broken_from q end (place + 1)) (broken_from q end (place + 1))) fails

  pub broken_later : place < end → q place ≡ true → broken_from q end place ≡ broken_from q end (place + 1)
  broken_later some passes = left some ∙ ap (λ b. cond (not b) (place ∷ broken_from q end (place + 1)) (broken_from q end (place + 1))) passes

  pub broken_none : end ≤ place → broken_from q end place ≡ []
  broken_none past = let e : end - place ≡ 0 = omega arith in ap (λ n. filter (λ n. not (q n)) (range_with_len place n)) e

-- where every number of a range passes a test, none fails it
pub none_fail : (q : ℕ → Bool) (from count : ℕ) → ((n : ℕ) → n < from + count → q n ≡ true) → filter (λ n. not (q n)) (range_with_len from count) ≡ []
none_fail q from zero all = refl
none_fail q from (suc count) all = rw (all from (omega arith)) (none_fail q (from + 1) count (λ n low. all n (omega arith)))
