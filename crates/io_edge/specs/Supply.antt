-- The value of a source in memory.
use Rattle.std.specs.Prelude.{ℕ, List}

-- the bytes left, how many a call moves at most, the calls that are to fail, and the counts of calls, bytes and
-- failures
pub record Supply : Type 0 where
  pub left : List ℕ
  pub step : ℕ
  pub fails : List ℕ
  pub calls : ℕ
  pub taken : ℕ
  pub faults : ℕ

-- before the first call
abbrev pub fresh_supply : List ℕ → ℕ → List ℕ → Supply
fresh_supply bytes step fails = record { left = bytes; step = step; fails = fails; calls = 0; taken = 0; faults = 0 }
