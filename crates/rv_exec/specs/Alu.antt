-- The results of the operations on two registers, all modulo 2^32.
use Rattle.std.specs.Prelude.{ℕ, ◌+◌, ◌-◌, ◌*◌, ◌/◌, ◌%◌, ◌^◌, ◌==◌, Bool, nat_lt, ℤ, pos, ◌-ℤ◌, ◌*ℤ◌, int_lt, int_div, int_rem, bit_and, bit_or, bit_xor, if◌then◌else◌}
use Rattle.std.specs.Int.{int_div_euclid}
use Rattle.slack_base.specs.declared.instructions.RegOp.{RegOp}
use Rattle.slack_base.specs.declared.instructions.RegOp.TheVariants.{Add, Sll, Slt, Sltu, Xor, Srl, Or, And, Sub, Sra, Mul, Mulh, Mulhsu, Mulhu, Div, Divu, Rem, Remu}
use Rattle.rv_exec.specs.Words.{signed_of, low_bits, word_of}

-- 1 where the test holds
abbrev pub flag_of : Bool → ℕ
flag_of holds = if holds then 1 else 0

-- a shift takes its amount from the low five bits of the second operand
abbrev pub shift_amount : ℕ → ℕ
shift_amount b = b % 32

-- the high 32 bits of the 64-bit product
unfoldable pub high_of : ℤ → ℕ
high_of product = low_bits 64 product / 2 ^ 32

-- the quotient truncated toward zero; a division by 0 gives all ones
unfoldable pub quotient_of : ℕ → ℕ → ℕ
quotient_of a b = if b == 0 then 2 ^ 32 - 1 else word_of (int_div (signed_of a) (signed_of b))

unfoldable pub quotient_of_unsigned : ℕ → ℕ → ℕ
quotient_of_unsigned a b = if b == 0 then 2 ^ 32 - 1 else a / b

-- the remainder with the dividend's sign; of a division by 0 it is the dividend
unfoldable pub remainder_of : ℕ → ℕ → ℕ
remainder_of a b = if b == 0 then a else word_of (int_rem (signed_of a) (signed_of b))

unfoldable pub remainder_of_unsigned : ℕ → ℕ → ℕ
remainder_of_unsigned a b = if b == 0 then a else a % b

-- SRA repeats the sign: it divides the signed reading by a power of two and rounds down
unfoldable pub alu_of : RegOp → ℕ → ℕ → ℕ
alu_of Add a b = (a + b) % 2 ^ 32
alu_of Sub a b = word_of (pos a -ℤ pos b)
alu_of And a b = bit_and a b
alu_of Or a b = bit_or a b
alu_of Xor a b = bit_xor a b
alu_of Slt a b = flag_of (int_lt (signed_of a) (signed_of b))
alu_of Sltu a b = flag_of (nat_lt a b)
alu_of Sll a b = (a * 2 ^ shift_amount b) % 2 ^ 32
alu_of Srl a b = a / 2 ^ shift_amount b
alu_of Sra a b = word_of (int_div_euclid (signed_of a) (pos (2 ^ shift_amount b)))
alu_of Mul a b = (a * b) % 2 ^ 32
alu_of Mulh a b = high_of (signed_of a *ℤ signed_of b)
alu_of Mulhsu a b = high_of (signed_of a *ℤ pos b)
alu_of Mulhu a b = high_of (pos a *ℤ pos b)
alu_of Div a b = quotient_of a b
alu_of Divu a b = quotient_of_unsigned a b
alu_of Rem a b = remainder_of a b
alu_of Remu a b = remainder_of_unsigned a b
