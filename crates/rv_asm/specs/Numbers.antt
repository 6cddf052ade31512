-- Numbers as they are written: decimal, or `0x` and hexadecimal, with an optional `-`.
use Rattle.std.specs.Prelude.{ℕ, ℤ, pos, neg_ℤ, List, Option, Some, None, Result, Ok, Err, codes}
use Rattle.plain_text.specs.Numerals.{numeral_of}
use Rattle.slack_base.specs.declared.faults.AsmKind.{AsmKind}
use Rattle.slack_base.specs.declared.faults.AsmKind.TheVariants.{Operand}
use Rattle.rv_asm.specs.Bytes.{without_prefix}
use Rattle.rv_asm.specs.Kinds.{◌>>=◌}

-- the number, or the fault where the digits spell none below 2^32
abbrev pub or_operand : Option ℕ → Result ℕ AsmKind
or_operand (Some n) = Ok n
or_operand None = Err Operand

abbrev pub digits_of : ℕ → List ℕ → Result ℕ AsmKind
digits_of radix text = or_operand (numeral_of radix text)

-- hexadecimal behind `0x`, decimal else
abbrev pub magnitude_by : Option (List ℕ) → List ℕ → Result ℕ AsmKind
magnitude_by (Some digits) text = digits_of 16 digits
magnitude_by None text = digits_of 10 text

unfoldable pub magnitude_of : List ℕ → Result ℕ AsmKind
magnitude_of text = magnitude_by (without_prefix (codes "0x") text) text

-- below zero behind `-`
abbrev pub number_by : Option (List ℕ) → List ℕ → Result ℤ AsmKind
number_by (Some digits) text = magnitude_of digits >>= λ n. Ok (neg_ℤ (pos n))
number_by None text = magnitude_of text >>= λ n. Ok (pos n)

unfoldable pub number_of : List ℕ → Result ℤ AsmKind
number_of text = number_by (without_prefix (codes "-") text) text
