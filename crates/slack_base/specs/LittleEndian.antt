-- Words and lines of memory, lowest byte first.
use Rattle.std.specs.Prelude.{ℕ, ◌+◌, List, [], ◌∷◌}
use Rattle.std.specs.Int.{w32, from_le_bytes, to_le_bytes}
use Rattle.std.specs.List.{flat_map}
use Rattle.slack_base.specs.declared.messages.Words.{Words}

-- the word of the four bytes from an address on
abbrev pub word_at : (byte : ℕ → ℕ) → ℕ → ℕ
word_at byte a = from_le_bytes w32 (byte a ∷ byte (a + 1) ∷ byte (a + 2) ∷ byte (a + 3) ∷ [])

-- the four words of the line that begins at an address
abbrev pub words_at : (byte : ℕ → ℕ) → ℕ → Words
words_at byte a = record { w0 = word_at byte a; w1 = word_at byte (a + 4); w2 = word_at byte (a + 8); w3 = word_at byte (a + 12) }

-- the bytes of words, one word after another
abbrev pub bytes_of_words : List ℕ → List ℕ
bytes_of_words words = flat_map (to_le_bytes w32) words
