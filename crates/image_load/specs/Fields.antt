-- The numbers of a file, little-endian, by their offsets.
use Rattle.std.specs.Prelude.{ℕ, List, drop}
use Rattle.byteorder.specs.Endian.{little_number}

-- the number of 16 bits at an offset
unfoldable pub u16_at : ℕ → List ℕ → ℕ
u16_at offset bytes = little_number 2 (drop offset bytes)

-- the number of 32 bits at an offset
unfoldable pub u32_at : ℕ → List ℕ → ℕ
u32_at offset bytes = little_number 4 (drop offset bytes)
