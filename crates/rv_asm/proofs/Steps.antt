-- From line to line.
use Rattle.std.proofs.Common.{◌≡◌, ℕ, ◌+◌, ◌<◌, ◌≤◌, Bool, true, false, cond, List, [], ◌∷◌, length, not, refl, sym, ap, ◌∙◌, arith, eqb, ltb, inl, inr}
use Rattle.std.specs.List.{position_or_len, before_first, after_first, slice_split}
use Rattle.std.specs.Str.Lines.{lines, lines_of_parts, strip_carriage_return}
use Rattle.std.proofs.lemmas.Bool.Decides.{nat_tests}
use Rattle.std.proofs.lemmas.Bool.{cases_lt}
use Rattle.std.proofs.lemmas.List.{drop_all, length-drop}
use Rattle.std.proofs.lemmas.List.Splits.{slice_split_none, slice_split_first, length-slice_split}
use Rattle.std.proofs.lemmas.List.Sums.{fails_before_first}
use Rattle.rv_asm.specs.Labels.{with_labels}
use Rattle.rv_asm.specs.Lines.{names, statement, place_after, places_from, first_line, rest_of_lines}
use Rattle.rv_asm.specs.Operands.{Places}

abbrev is_feed : ℕ → Bool
is_feed byte = eqb byte 10

more_parts : (part : List ℕ) (parts : List (List ℕ)) → 0 < length parts → lines_of_parts (part ∷ parts) ≡ strip_carriage_return part ∷ lines_of_parts parts
more_parts part [] h = absurd (omega arith)
more_parts part (next ∷ parts) h = refl

last_part : (part : List ℕ) → 0 < length part → lines_of_parts (part ∷ []) ≡ part ∷ []
last_part part h =
    let some : eqb (length part) 0 ≡ false = grind (arith, nat_tests) in
    ap (λ b. cond b [] (part ∷ [])) some

-- the lines of a text are its first, and those of what is after it
pub lines_step : (text : List ℕ) → 0 < length text → lines text ≡ first_line text ∷ lines (rest_of_lines text)
unfolding first_line rest_of_lines
lines_step text some =
    elim (cases_lt (position_or_len is_feed text) (length text)) [
      | inl low ↦
          let test : ltb (position_or_len is_feed text) (length text) ≡ true = grind (arith, nat_tests) in
          ap lines_of_parts (slice_split_first is_feed text 0 low)
          ∙ more_parts (before_first is_feed text) (slice_split is_feed (after_first is_feed text)) (omega (arith, length-slice_split is_feed (after_first is_feed text)))
          ∙ ap (λ line. line ∷ lines (after_first is_feed text)) (sym (ap (λ b. cond b (strip_carriage_return (before_first is_feed text)) text) test))
      | inr high ↦
          let test : ltb (position_or_len is_feed text) (length text) ≡ false = grind (arith, nat_tests) in
          ap lines_of_parts (slice_split_none is_feed text (λ k d low. fails_before_first is_feed text k d (omega arith)))
          ∙ last_part text some
          ∙ ap (λ line. line ∷ []) (sym (ap (λ b. cond b (strip_carriage_return (before_first is_feed text)) text) test))
          ∙ ap (λ rest. first_line text ∷ lines rest) (sym (drop_all (position_or_len is_feed text + 1) text (omega arith)))
    ]

pub rest_shorter : (text : List ℕ) → 0 < length text → length (rest_of_lines text) < length text
unfolding rest_of_lines
rest_shorter text some = omega (arith, length-drop (position_or_len is_feed text + 1) text)

pub lines_none : (text : List ℕ) → length text ≡ 0 → lines text ≡ []
lines_none [] h = refl
lines_none (byte ∷ bytes) h = absurd (omega arith)

-- the labels of a line more
pub places_step : (places after_it : Places) (here after : ℕ) (text : List ℕ) → 0 < length text → after_it ≡ with_labels here places (names (first_line text)) → after ≡ place_after here (first_line text) → places_from after_it after (lines (rest_of_lines text)) ≡ places_from places here (lines text)
unfolding places_from
places_step places after_it here after text some defined moved =
    ap (λ p. places_from p after (lines (rest_of_lines text))) defined
    ∙ ap (λ n. places_from (with_labels here places (names (first_line text))) n (lines (rest_of_lines text))) moved
    ∙ sym (ap (places_from places here) (lines_step text some))

pub places_end : (places : Places) (here : ℕ) (text : List ℕ) → length text ≡ 0 → places_from places here (lines text) ≡ places
unfolding places_from
places_end places here text none = ap (places_from places here) (lines_none text none)

-- the place after a line, by its statement
pub moved : (here after : ℕ) (line said : List ℕ) → after ≡ cond (not (eqb (length said) 0)) (here + 1) here → said ≡ statement line → after ≡ place_after here line
unfolding place_after
moved here after line said h same = h ∙ ap (λ s. cond (not (eqb (length s) 0)) (here + 1) here) same

pub moved_le : (here after : ℕ) (b : Bool) → after ≡ cond b (here + 1) here → after ≤ here + 1
moved_le here after true h = omega arith
moved_le here after false h = omega arith
