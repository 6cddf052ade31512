-- Numbers that only grow, up to where they stop.
use Rattle.std.specs.Prelude.{ℕ, ◌+◌, min}
use Rattle.slack_base.specs.declared.bounds.TheConstants.{TOP}

-- the number, or where it stops
abbrev pub capped : ℕ → ℕ
capped n = min n TOP

-- one more
abbrev pub raised : ℕ → ℕ
raised n = capped (n + 1)
