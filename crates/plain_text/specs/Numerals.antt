-- Numbers as they are written in digits.
use Rattle.std.specs.Prelude.{ℕ, ◌^◌, ◌&&◌, Bool, List, Option, Some, None, nat_lt, length, if◌then◌else◌}
use Rattle.std.specs.Char.{digit_value}
use Rattle.std.specs.List.{list_all}
use Rattle.std.specs.Str.Parse.{digits_value}

-- one digit at least, and no other byte
abbrev pub are_digits : (radix : ℕ) → List ℕ → Bool
are_digits radix text = nat_lt 0 (length text) && list_all (λ byte. nat_lt (digit_value byte) radix) text

-- the number that the digits spell, below 2^32
unfoldable pub numeral_of : (radix : ℕ) → List ℕ → Option ℕ
numeral_of radix text =
    if are_digits radix text && nat_lt (digits_value radix text) (2 ^ 32) then Some (digits_value radix text) else None
