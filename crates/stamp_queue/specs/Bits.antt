-- The bits of a number.
use Rattle.std.specs.Prelude.{◌≡◌, ℕ, ◌<◌}
use Rattle.std.specs.Int.{bit_at}

-- the place of the lowest bit of a number that is set
abbrev pub IsLowestBit : ℕ → ℕ → Type 0
IsLowestBit bits place = (place < 64) × (bit_at bits place ≡ 1) × ((i : ℕ) → i < place → bit_at bits i ≡ 0)
