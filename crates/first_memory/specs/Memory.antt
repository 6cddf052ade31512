-- What memory holds before the first cycle.
use Rattle.std.specs.Prelude.{ℕ, ◌+◌, ◌-◌, ◌*◌, ◌/◌, ◌&&◌, max, Bool, List, [], ◌∷◌, ◌++◌, length, map, replicate, nat_le, nat_lt, slice_index, if◌then◌else◌}
use Rattle.std.specs.List.{range_with_len}
use Rattle.slack_base.specs.declared.images.Segment.{Segment}

-- the address lies in the segment
abbrev pub is_in : Segment → ℕ → Bool
is_in s address = nat_le s.address address && nat_lt address (s.address + s.size)

-- the byte at an address: that of the segment in which it lies, and 0 past the segment's bytes and outside segments
abbrev pub byte_at : List Segment → ℕ → ℕ
byte_at [] address = 0
byte_at (s ∷ segments) address = if is_in s address then slice_index s.bytes (address - s.address) else byte_at segments address

-- the bytes of so many addresses from base on
unfoldable pub bytes_from : List Segment → ℕ → ℕ → List ℕ
bytes_from segments base size = map (λ k. byte_at segments (base + k)) (range_with_len 0 size)

-- how many bytes from base on lie before the end of what the segments give
abbrev pub reach : List Segment → (base : ℕ) → ℕ
reach [] base = 0
reach (s ∷ segments) base = max (s.address + length s.bytes - base) (reach segments base)

-- how many bytes the lines have, 16 each, up to the last one that the segments' bytes reach
abbrev pub lines_reached : List Segment → (base : ℕ) → ℕ
lines_reached segments base = 16 * ((reach segments base + 15) / 16)

-- the bytes, and zeros behind them, so many in all
unfoldable pub with_zeros : List ℕ → (size : ℕ) → List ℕ
with_zeros bytes size = bytes ++ replicate (size - length bytes) 0
