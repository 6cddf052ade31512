-- Numbers as they are written.
use Rattle.std.specs.Prelude.{ℕ, List, Option, None, nat_le, length, if◌then◌else◌}
use Rattle.plain_text.specs.Numerals.{numeral_of}

-- the number that so many decimal digits at most spell, below 2^32
unfoldable pub short_numeral : ℕ → List ℕ → Option ℕ
short_numeral most text = if nat_le (length text) most then numeral_of 10 text else None

-- the number of an option's value: ten digits at most
unfoldable pub number_of : List ℕ → Option ℕ
number_of text = short_numeral 10 text
