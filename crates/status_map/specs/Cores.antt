-- Sets of cores as numbers.
use Rattle.std.specs.Prelude.{ℕ, ◌^◌, Bool, not, List, ◌==◌, ◌&&◌, filter, bit_or}
use Rattle.std.specs.Int.{bit_at}
use Rattle.std.specs.List.{range_with_len}
use Rattle.slack_base.specs.declared.bounds.TheConstants.{MOST_CORES}

-- the core is in the set: its bit is 1
abbrev pub holds : ℕ → ℕ → Bool
holds cores core = bit_at cores core == 1

-- the set with one more core
abbrev pub with_core : ℕ → ℕ → ℕ
with_core cores core = bit_or cores (2 ^ core)

-- the set of one core
abbrev pub only : ℕ → ℕ
only core = with_core 0 core

-- the core is in the set, and isn't the one that asks
abbrev pub is_other : ℕ → ℕ → ℕ → Bool
is_other cores asking core = not (core == asking) && holds cores core

-- the cores that a machine may have, in the order of their numbers
unfoldable pub all_cores : List ℕ
all_cores = range_with_len 0 MOST_CORES

-- the members of the set but for the one that asks, in the order of their numbers
abbrev pub others : ℕ → ℕ → List ℕ
others cores asking = filter (is_other cores asking) all_cores
