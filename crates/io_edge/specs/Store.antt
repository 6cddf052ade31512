-- The value of a sink in memory.
use Rattle.std.specs.Prelude.{ℕ, List, []}

-- the bytes written, how many more there is room for, how many a call appends at most, the calls that are to fail,
-- and the counts of calls and failures
pub record Store : Type 0 where
  pub written : List ℕ
  pub room : ℕ
  pub step : ℕ
  pub fails : List ℕ
  pub calls : ℕ
  pub faults : ℕ

-- before the first call
abbrev pub fresh_store : ℕ → ℕ → List ℕ → Store
fresh_store room step fails = record { written = []; room = room; step = step; fails = fails; calls = 0; faults = 0 }
