-- What is known of standard input.
use Rattle.std.specs.Prelude.{ℕ}

-- how many bytes were taken, and how many calls failed
pub record Tally : Type 0 where
  pub taken : ℕ
  pub faults : ℕ

-- before the first call
abbrev pub fresh_tally : Tally
fresh_tally = record { taken = 0; faults = 0 }
