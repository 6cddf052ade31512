-- The two's complement reading of a word, and the word of an integer.
use Rattle.std.specs.Prelude.{ℕ, ◌^◌, nat_lt, ℤ, pos, ◌-ℤ◌, unsigned_abs, if◌then◌else◌}
use Rattle.std.specs.Int.{int_rem_euclid}

-- a word whose highest bit is set stands for 2^32 less
unfoldable pub signed_of : ℕ → ℤ
signed_of w = if nat_lt w (2 ^ 31) then pos w else pos w -ℤ pos (2 ^ 32)

-- the lowest k bits of z in two's complement: z modulo 2^k
unfoldable pub low_bits : ℕ → ℤ → ℕ
low_bits k z = unsigned_abs (int_rem_euclid z (pos (2 ^ k)))

-- z modulo 2^32
unfoldable pub word_of : ℤ → ℕ
word_of z = low_bits 32 z
