-- Where a jump or a branch goes.
use Rattle.std.specs.Prelude.{ℕ, ℤ, pos, ◌+ℤ◌}
use Rattle.rv_exec.specs.Words.{word_of}

-- the address from which the jump goes plus the offset, modulo 2^32
unfoldable pub target_of : ℕ → ℤ → ℕ
target_of from offset = word_of (pos from +ℤ offset)
