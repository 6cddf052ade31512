-- The marks of the slots of a wheel, as bits of four words.
use Rattle.std.proofs.Common.{◌≡◌, ◌≢◌, ◌∙◌, ℕ, ◌+◌, ◌-◌, ◌*◌, ◌/◌, ◌%◌, ◌^◌, ◌<◌, ◌≤◌, List, length, get_or, set, sym, ap, arith, w64, bit_and, bit_or, replicate, min, inl, inr}
use Rattle.std.proofs.lemmas.Bool.{cases_eq, cases_lt}
use Rattle.std.proofs.lemmas.List.{get_or-set_same, get_or-set_other, get_or-replicate}
use Rattle.std.proofs.lemmas.Nat.Bits.{bit_at-zero, bit_at_set_same, bit_at_set_other, bit_at_clear_same, bit_at_clear_other, ones_shl, bit_at_and, bit_at_mask_inside, bit_at_mask_below, bit_at-lt}
use Rattle.std.specs.Int.{bit_at, bit_not}
use Rattle.stamp_queue.specs.declared.inbox.occupied.Occupied.{Occupied}
use Rattle.stamp_queue.specs.Bits.{IsLowestBit}
use Rattle.stamp_queue.specs.Occupied.{mark_at, NoneWithin, IsNextFrom}

-- the mark of a slot whose word is written
here_from : (words : List ℕ) (slot v : ℕ) → length words ≡ 4 → slot < 256 → bit_at (get_or (set words (slot / 64) v) (slot / 64) 0) (slot % 64) ≡ bit_at v (slot % 64)
here_from words slot v len h = ap (λ w. bit_at w (slot % 64)) (get_or-set_same words (slot / 64) v 0 (omega arith))

-- the marks of the others, where the word keeps its other bits
others_from : (words : List ℕ) (slot v k : ℕ) → length words ≡ 4 → slot < 256 → k ≢ slot
    → ((i : ℕ) → i < 64 → i ≢ slot % 64 → bit_at v i ≡ bit_at (get_or words (slot / 64) 0) i)
    → bit_at (get_or (set words (slot / 64) v) (k / 64) 0) (k % 64) ≡ bit_at (get_or words (k / 64) 0) (k % 64)
others_from words slot v k len h apart bits =
    elim (cases_eq (k / 64) (slot / 64)) [
      | inl same ↦
          let place : k % 64 ≢ slot % 64 = λ e. apart (omega arith) in
          let now : get_or (set words (slot / 64) v) (k / 64) 0 ≡ v = ap (λ j. get_or (set words (slot / 64) v) j 0) same ∙ get_or-set_same words (slot / 64) v 0 (omega arith) in
          ap (λ w. bit_at w (k % 64)) now ∙ bits (k % 64) (omega arith) place ∙ ap (λ j. bit_at (get_or words j 0) (k % 64)) (sym same)
      | inr other ↦ ap (λ w. bit_at w (k % 64)) (get_or-set_other words (slot / 64) (k / 64) v 0 other)
    ]

module _ (words : List ℕ) (slot : ℕ) (len : length words ≡ 4) (h : slot < 256) where
  pub here-insert : bit_at (get_or (set words (slot / 64) (bit_or (get_or words (slot / 64) 0) (1 * 2 ^ (slot % 64) % 2 ^ 64))) (slot / 64) 0) (slot % 64) ≡ 1
  here-insert = here_from words slot _ len h ∙ bit_at_set_same w64 _ (slot % 64) (omega arith)

  pub others-insert : (k : ℕ) → k ≢ slot → bit_at (get_or (set words (slot / 64) (bit_or (get_or words (slot / 64) 0) (1 * 2 ^ (slot % 64) % 2 ^ 64))) (k / 64) 0) (k % 64) ≡ bit_at (get_or words (k / 64) 0) (k % 64)
  others-insert k apart = others_from words slot _ k len h apart (λ i within other. bit_at_set_other w64 _ (slot % 64) (omega arith) i other)

  pub here-remove : bit_at (get_or (set words (slot / 64) (bit_and (get_or words (slot / 64) 0) (bit_not w64 (1 * 2 ^ (slot % 64) % 2 ^ 64)))) (slot / 64) 0) (slot % 64) ≡ 0
  here-remove = here_from words slot _ len h ∙ bit_at_clear_same w64 _ (slot % 64) (omega arith)

  pub others-remove : (k : ℕ) → k ≢ slot → bit_at (get_or (set words (slot / 64) (bit_and (get_or words (slot / 64) 0) (bit_not w64 (1 * 2 ^ (slot % 64) % 2 ^ 64)))) (k / 64) 0) (k % 64) ≡ bit_at (get_or words (k / 64) 0) (k % 64)
  others-remove k apart = others_from words slot _ k len h apart (λ i within other. bit_at_clear_other w64 _ (slot % 64) (omega arith) i within other)

-- a word of zeros
pub none_marked : (k : ℕ) → k < 256 → bit_at (get_or (replicate 4 0) (k / 64) 0) (k % 64) ≡ 0
none_marked k h = ap (λ w. bit_at w (k % 64)) (get_or-replicate 4 (k / 64) 0 0 (omega arith)) ∙ bit_at-zero (k % 64)

-- what a search knows of the word at hand: from the slot on its bits are the marks, before it none is set
pub record Searched (o : Occupied) (slot word bits : ℕ) : Type 0 where
  pub within : word < 4
  pub onward : slot / 64 ≤ word
  pub before : NoneWithin o slot (word * 64)
  pub same : (k : ℕ) → slot ≤ k → k / 64 ≡ word → bit_at bits (k % 64) ≡ mark_at o k
  pub below : (k : ℕ) → k < slot → k / 64 ≡ word → bit_at bits (k % 64) ≡ 0

-- the search begins
pub searched_first : (o : Occupied) (slot : ℕ) → slot < 256 → Searched o slot (slot / 64) (bit_and (get_or o.words (slot / 64) 0) ((2 ^ 64 - 1) * 2 ^ (slot % 64) % 2 ^ 64))
searched_first o slot h =
    let word = get_or o.words (slot / 64) 0 in
    let mask = 2 ^ 64 - 2 ^ (slot % 64) in
    let is : (2 ^ 64 - 1) * 2 ^ (slot % 64) % 2 ^ 64 ≡ mask = ones_shl 64 (slot % 64) (omega arith) in
    let bit : (i : ℕ) → bit_at (bit_and word ((2 ^ 64 - 1) * 2 ^ (slot % 64) % 2 ^ 64)) i ≡ min (bit_at word i) (bit_at mask i) = λ i. ap (λ m. bit_at (bit_and word m) i) is ∙ bit_at_and word mask i in
    record {
      within = omega arith;
      onward = omega arith;
      before = λ k from end. absurd (omega arith);
      same = λ k from e.
          let one : bit_at mask (k % 64) ≡ 1 = bit_at_mask_inside (slot % 64) 64 (k % 64) (omega arith) (omega arith) in
          let now : bit_at (bit_and word ((2 ^ 64 - 1) * 2 ^ (slot % 64) % 2 ^ 64)) (k % 64) ≡ bit_at word (k % 64) = omega (arith, bit (k % 64), bit_at-lt word (k % 64)) in
          now ∙ ap (λ j. bit_at (get_or o.words j 0) (k % 64)) (sym e);
      below = λ k from e.
          let none : bit_at mask (k % 64) ≡ 0 = bit_at_mask_below (slot % 64) 64 (k % 64) (omega arith) in
          omega (arith, bit (k % 64));
    }

-- no bit of the word is set
none_of_word : (o : Occupied) (slot word bits : ℕ) → Searched o slot word bits → bits ≡ 0 → NoneWithin o slot (word * 64 + 64)
none_of_word o slot word bits s zero_is k from end =
    elim (cases_lt k (word * 64)) [
      | inl before ↦ s.before k from before
      | inr here ↦ sym (s.same k from (omega arith)) ∙ ap (λ b. bit_at b (k % 64)) zero_is ∙ bit_at-zero (k % 64)
    ]

-- the search goes on to the next word
pub searched_more : (o : Occupied) (slot word bits : ℕ) → slot < 256 → Searched o slot word bits → bits ≡ 0 → word + 1 < 4 → Searched o slot (word + 1) (get_or o.words (word + 1) 0)
searched_more o slot word bits h s zero_is more = record {
  within = more;
  onward = omega (arith, s.onward);
  before = λ k from end. none_of_word o slot word bits s zero_is k from (omega arith);
  same = λ k from e. ap (λ j. bit_at (get_or o.words j 0) (k % 64)) (sym e);
  below = λ k from e. absurd (omega (arith, s.onward));
}

-- it finds the lowest bit
pub searched_found : (o : Occupied) (slot word bits bit : ℕ) → Searched o slot word bits → IsLowestBit bits bit → IsNextFrom o slot (word * 64 + bit)
searched_found o slot word bits t s low =
    let place : (word * 64 + t) / 64 ≡ word = omega (arith, low.0) in
    let bit : (word * 64 + t) % 64 ≡ t = omega (arith, low.0) in
    let one : bit_at bits ((word * 64 + t) % 64) ≡ 1 = ap (bit_at bits) bit ∙ low.1 in
    let from : slot ≤ word * 64 + t = elim (cases_lt (word * 64 + t) slot) [
      | inl before ↦ absurd (let none = s.below (word * 64 + t) before place in omega (arith, one, none))
      | inr after ↦ after
    ] in (
      from,
      omega (arith, low.0, s.within),
      sym (s.same (word * 64 + t) from place) ∙ one,
      λ k low_end high_end. elim (cases_lt k (word * 64)) [
        | inl before ↦ s.before k low_end before
        | inr here ↦ sym (s.same k low_end (omega (arith, low.0))) ∙ low.2 (k % 64) (omega (arith, low.0))
      ],
    )
