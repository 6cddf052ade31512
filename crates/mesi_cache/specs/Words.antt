-- The four words of a line by their places.
use Rattle.std.specs.Prelude.{ℕ, [], ◌∷◌, ◌==◌, slice_index, if◌then◌else◌}
use Rattle.slack_base.specs.declared.messages.Words.{Words}

-- the word at a place, 0 to 3
abbrev pub word_of : Words → ℕ → ℕ
word_of words place = slice_index (words.w0 ∷ words.w1 ∷ words.w2 ∷ words.w3 ∷ []) place

-- the words with another one at a place: the others stay
abbrev pub with_word : Words → ℕ → ℕ → Words
with_word words place value = record {
  w0 = if place == 0 then value else words.w0;
  w1 = if place == 1 then value else words.w1;
  w2 = if place == 2 then value else words.w2;
  w3 = if place == 3 then value else words.w3;
}
