-- The fields of an instruction's word, with the bits as the RISC-V Unprivileged ISA (20191213) numbers them, from
-- 31 down to 0: chapter 2.2 has the registers and the selecting fields, figure 2.4 the immediates, chapter 8 the
-- fields of atomic instructions.
use Rattle.std.specs.Prelude.{ℕ, ℤ, pos, ◌+◌, ◌-◌, ◌*◌, ◌/◌, ◌%◌, ◌^◌, ◌-ℤ◌, Bool, true, false}

-- the bits high to low of a word, read as a number
abbrev pub field : ℕ → ℕ → ℕ → ℕ
field word high low = word / 2 ^ low % 2 ^ (high + 1 - low)

abbrev pub opcode_of : ℕ → ℕ
opcode_of word = field word 6 0

abbrev pub rd_of : ℕ → ℕ
rd_of word = field word 11 7

abbrev pub f3_of : ℕ → ℕ
f3_of word = field word 14 12

abbrev pub rs1_of : ℕ → ℕ
rs1_of word = field word 19 15

abbrev pub rs2_of : ℕ → ℕ
rs2_of word = field word 24 20

abbrev pub f7_of : ℕ → ℕ
f7_of word = field word 31 25

abbrev pub funct5_of : ℕ → ℕ
funct5_of word = field word 31 27

abbrev pub aq_of : ℕ → ℕ
aq_of word = field word 26 26

abbrev pub rl_of : ℕ → ℕ
rl_of word = field word 25 25

-- a flag's one bit
abbrev pub bit_of : Bool → ℕ
bit_of true = 1
bit_of false = 0

-- The signed immediates. Bit 31 is the sign of each: to repeat it in each place from the sign's up gives, in two's
-- complement, the number in which the sign's place weighs below zero.
abbrev pub immediate_i : ℕ → ℤ
immediate_i word = pos (field word 30 20) -ℤ pos (2 ^ 11 * field word 31 31)

abbrev pub immediate_s : ℕ → ℤ
immediate_s word = pos (2 ^ 5 * field word 30 25 + field word 11 7) -ℤ pos (2 ^ 11 * field word 31 31)

abbrev pub immediate_b : ℕ → ℤ
immediate_b word =
    pos (2 ^ 11 * field word 7 7 + 2 ^ 5 * field word 30 25 + 2 * field word 11 8)
    -ℤ pos (2 ^ 12 * field word 31 31)

abbrev pub immediate_j : ℕ → ℤ
immediate_j word =
    pos (2 ^ 12 * field word 19 12 + 2 ^ 11 * field word 20 20 + 2 * field word 30 21)
    -ℤ pos (2 ^ 20 * field word 31 31)

-- the upper twenty bits: the U immediate is these and then twelve zeros
abbrev pub upper_of : ℕ → ℕ
upper_of word = field word 31 12
