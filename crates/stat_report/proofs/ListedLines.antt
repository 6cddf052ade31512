-- The lines of a segment, from word to word.
use Rattle.std.proofs.Common.{◌≡◌, ℕ, zero, suc, ◌+◌, ◌-◌, ◌%◌, ◌<◌, ◌≤◌, List, [], ◌++◌, length, drop, sym, ap, ◌∙◌, ⊎_elim, arith, add-zero, add-one}
use Rattle.std.specs.List.{flat_map, range_with_len}
use Rattle.std.proofs.lemmas.Bool.{cases_lt}
use Rattle.std.proofs.lemmas.Bool.Decides.{nat_tests}
use Rattle.byteorder.specs.Endian.{little_number}
use Rattle.slack_base.specs.declared.images.Segment.{Segment}
use Rattle.stat_report.specs.Listing.{line, line_at, segment_text}
use Rattle.stat_report.proofs.Places.{from, from_more, from_none}

skip_one : (f : ℕ → List ℕ) (end place : ℕ) → f place ≡ [] → from f end place ≡ from f end (place + 1)
skip_one f end place nothing =
    ⊎_elim
    (λ some. from_more f end place some ∙ ap (λ xs. xs ++ from f end (place + 1)) nothing)
    (λ none. from_none f end place none ∙ sym (from_none f end (place + 1) (omega arith)))
    (cases_lt place end)

skip : (n : ℕ) (f : ℕ → List ℕ) (end place : ℕ) → ((k : ℕ) → place ≤ k → k < place + n → f k ≡ []) → from f end place ≡ from f end (place + n)
skip zero f end place nothing = ap (from f end) (sym (add-zero place))
skip (suc n) f end place nothing =
    let further : (place + 1) + n ≡ place + suc n = omega (arith, add-one n) in
    skip_one f end place (nothing place (omega arith) (omega (arith, add-one n)))
    ∙ skip n f end (place + 1) (λ k low high. nothing k (omega arith) (omega (arith, further)))
    ∙ ap (from f end) further

-- the lines of a segment from a place on
abbrev pub lines_from : Segment → ℕ → List ℕ
lines_from s place = from (line_at s) (length s.bytes) place

module _ (s : Segment) (place : ℕ) (aligned : (s.address + place) % 4 ≡ 0) where
  no_line_before : (k : ℕ) → place < 4 → k < place → line_at s k ≡ []
  unfolding line_at
  no_line_before k near before = grind (arith, nat_tests)

  no_line_between : (k : ℕ) → place < k → k < place + 4 → line_at s k ≡ []
  unfolding line_at
  no_line_between k low high = grind (arith, nat_tests)

  line_here : place + 4 ≤ length s.bytes → line_at s place ≡ line (s.address + place) (little_number 4 (drop place s.bytes))
  unfolding line_at
  line_here room = grind (arith, nat_tests)

  pub lines_start : place < 4 → segment_text s ≡ lines_from s place
  unfolding segment_text
  lines_start near =
      ap (λ n. flat_map (line_at s) (range_with_len 0 n)) (omega arith)
      ∙ skip place (line_at s) (length s.bytes) 0 (λ k low high. no_line_before k near (omega arith))
      ∙ ap (lines_from s) (omega arith)

  pub lines_more : place + 4 ≤ length s.bytes → lines_from s place ≡ line (s.address + place) (little_number 4 (drop place s.bytes)) ++ lines_from s (place + 4)
  lines_more room =
      from_more (line_at s) (length s.bytes) place (omega arith)
      ∙ ap (λ xs. xs ++ lines_from s (place + 1)) (line_here room)
      ∙ ap (λ xs. line (s.address + place) (little_number 4 (drop place s.bytes)) ++ xs)
      (skip 3 (line_at s) (length s.bytes) (place + 1) (λ k low high. no_line_between k (omega arith) (omega arith)) ∙ ap (lines_from s) (omega arith))

no_line_past : (s : Segment) (k : ℕ) → length s.bytes < k + 4 → line_at s k ≡ []
unfolding line_at
no_line_past s k past = grind (arith, nat_tests)

pub lines_end : (s : Segment) (place : ℕ) → length s.bytes < place + 4 → lines_from s place ≡ []
lines_end s place past =
    let end = length s.bytes in
    skip (end - place) (line_at s) end place (λ k low high. no_line_past s k (omega arith))
    ∙ from_none (line_at s) end (place + (end - place)) (omega arith)
