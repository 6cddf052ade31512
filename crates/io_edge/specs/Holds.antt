-- Where a gate may hold a core, and where it must.
use Rattle.std.specs.Prelude.{ℕ, Bool, List, ◌==◌, ◌&&◌}
use Rattle.std.specs.List.{list_any}
use Rattle.io_edge.specs.declared.stop_gates.Stop.{Stop}

-- of a core, by its number, and its clock
pub record Holds : Type 0 where
  pub may : ℕ → ℕ → Bool
  pub must : ℕ → ℕ → Bool

-- the core and the clock are among the stops
abbrev pub is_stop : List Stop → ℕ → ℕ → Bool
is_stop stops who clock = list_any (λ stop. stop.core == who && stop.clock == clock) stops
