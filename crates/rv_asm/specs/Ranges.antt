-- The ranges of the numbers of an instruction, as tests.
use Rattle.std.specs.Prelude.{ℕ, ℤ, pos, neg_ℤ, ◌-◌, ◌%◌, ◌^◌, ◌==◌, ◌&&◌, Bool, true, Result, Ok, Err, nat_lt, unsigned_abs, int_le, int_lt, if◌then◌else◌}
use Rattle.slack_base.specs.declared.faults.AsmKind.{AsmKind}
use Rattle.slack_base.specs.declared.faults.AsmKind.TheVariants.{Range}
use Rattle.slack_base.specs.declared.instructions.Instr.{Instr}
use Rattle.slack_base.specs.declared.instructions.Instr.TheVariants.{Lui, Auipc, Jal, Jalr, Branch, Load, Store, Imm, Shift, Reg, Lr, Sc, Amo, Fence, Ecall, Ebreak}
use Rattle.rv_decode.specs.Fields.{opcode_of, f3_of}

-- the number is from low on and below high
abbrev pub is_from_to : ℤ → ℤ → ℤ → Bool
is_from_to low high z = int_le low z && int_lt z high

-- a number in two's complement of so many bits and the sign's
abbrev pub is_signed : ℕ → ℤ → Bool
is_signed bits z = is_from_to (neg_ℤ (pos (2 ^ bits))) (pos (2 ^ bits)) z

abbrev pub is_even : ℤ → Bool
is_even z = unsigned_abs z % 2 == 0

abbrev pub is_register : ℕ → Bool
is_register r = nat_lt r 32

-- each field of the instruction is in its range
unfoldable pub is_in_range : Instr → Bool
is_in_range (Lui rd upper) = is_register rd && nat_lt upper (2 ^ 20)
is_in_range (Auipc rd upper) = is_register rd && nat_lt upper (2 ^ 20)
is_in_range (Jal rd offset) = is_register rd && (is_signed 20 offset && is_even offset)
is_in_range (Jalr rd rs1 offset) = is_register rd && is_register rs1 && is_signed 11 offset
is_in_range (Branch op rs1 rs2 offset) = is_register rs1 && is_register rs2 && (is_signed 12 offset && is_even offset)
is_in_range (Load op rd rs1 offset) = is_register rd && is_register rs1 && is_signed 11 offset
is_in_range (Store op rs1 rs2 offset) = is_register rs1 && is_register rs2 && is_signed 11 offset
is_in_range (Imm op rd rs1 value) = is_register rd && is_register rs1 && is_signed 11 value
is_in_range (Shift op rd rs1 amount) = is_register rd && is_register rs1 && nat_lt amount 32
is_in_range (Reg op rd rs1 rs2) = is_register rd && is_register rs1 && is_register rs2
is_in_range (Lr rd rs1 aq rl) = is_register rd && is_register rs1
is_in_range (Sc rd rs1 rs2 aq rl) = is_register rd && is_register rs1 && is_register rs2
is_in_range (Amo op rd rs1 rs2 aq rl) = is_register rd && is_register rs1 && is_register rs2
is_in_range (Fence word) = nat_lt word (2 ^ 32) && (opcode_of word == 0b0001111) && (f3_of word == 0b000)
is_in_range Ecall = true
is_in_range Ebreak = true

-- a number for a field with a sign, and for one without
unfoldable pub signed : ℤ → Result ℤ AsmKind
signed z = if is_signed 31 z then Ok z else Err Range

unfoldable pub unsigned : ℤ → Result ℕ AsmKind
unsigned z = if is_from_to (pos 0) (pos (2 ^ 32)) z then Ok (unsigned_abs z) else Err Range

-- a number for a whole word, which stands for what is below zero in two's complement
unfoldable pub word_of : ℤ → Result ℕ AsmKind
word_of z =
    if is_from_to (pos 0) (pos (2 ^ 32)) z then Ok (unsigned_abs z)
    else (if is_signed 31 z then Ok (2 ^ 32 - unsigned_abs z) else Err Range)
