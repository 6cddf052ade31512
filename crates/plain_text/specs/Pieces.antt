-- Pieces of text: words in hexadecimal, and named numbers.
use Rattle.std.specs.Prelude.{ℕ, ◌+◌, ◌/◌, ◌%◌, ◌^◌, List, [], ◌∷◌, ◌++◌, codes, nat_lt, if◌then◌else◌}
use Rattle.std.specs.Fmt.{decimal}

-- a digit, in lower case
abbrev pub hex_digit : ℕ → ℕ
hex_digit d = if nat_lt d 10 then 48 + d else 87 + d

-- the eight digits of a word, the highest first
unfoldable pub hex_word : ℕ → List ℕ
hex_word w =
    hex_digit (w / 16 ^ 7 % 16) ∷ hex_digit (w / 16 ^ 6 % 16) ∷ hex_digit (w / 16 ^ 5 % 16) ∷ hex_digit (w / 16 ^ 4 % 16)
    ∷ hex_digit (w / 16 ^ 3 % 16) ∷ hex_digit (w / 16 ^ 2 % 16) ∷ hex_digit (w / 16 % 16) ∷ hex_digit (w % 16) ∷ []

-- the eight digits of a word, and a blank
unfoldable pub hex_field : ℕ → List ℕ
hex_field word = hex_word word ++ codes " "

-- a name, and a number in decimal
unfoldable pub field : List ℕ → ℕ → List ℕ
field name n = name ++ decimal n
