use Rattle.std.proofs.Common.{◌≡◌, ℕ, ◌<◌, ◌^◌, get_or, take}
use Rattle.std.specs.Char.{digit_value}
use Rattle.std.specs.Str.Parse.{digits_value}
use Rattle.plain_text.proofs.numerals.numeral_of.Given as goal

-- the number of the digits so far
abbrev pub invariant-loop-byte : goal.invariant-loop-byte
invariant-loop-byte l =
    (l.number ≡ digits_value l.radix (take l.byte-index l.text))
    × ((k : ℕ) → k < l.byte-index → digit_value (get_or l.text k 0) < l.radix)
    × (l.number < 2 ^ 32)
