-- The checks that the formats of files share.
use Rattle.std.specs.Prelude.{ℕ, ◌+◌, ◌%◌, ◌==◌, ◌&&◌, Bool, nat_le, nat_lt}
use Rattle.slack_base.specs.declared.faults.ImageFault.{ImageFault}

-- a test, and the fault where it fails
abbrev pub Check : Type 0
Check = Bool × ImageFault

-- the bytes of the range are bytes of memory
abbrev pub is_in_memory : (base memory : ℕ) (address size : ℕ) → Bool
is_in_memory base memory address size = nat_le base address && nat_le (address + size) (base + memory)

-- the address is that of a word of memory
abbrev pub is_word_of : (base memory : ℕ) (address : ℕ) → Bool
is_word_of base memory address = (address % 4 == 0) && nat_le base address && nat_lt address (base + memory)
