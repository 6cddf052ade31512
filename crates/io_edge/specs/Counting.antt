-- Counts that stop at the last value of a u64.
use Rattle.std.specs.Prelude.{ℕ, ◌+◌, ◌≤◌, min}

-- the last value of a u64
abbrev pub last_count : ℕ
last_count = 18446744073709551615

-- the count n later
abbrev pub raised_by : ℕ → ℕ → ℕ
raised_by n count = min (count + n) last_count

-- a count that never falls rose, or stands at its last value
abbrev pub Rose : ℕ → ℕ → Type 0
Rose old new = raised_by 1 old ≤ new
