-- The state that cores, channels and a clock are, where they are stored apart.
use Rattle.std.specs.Prelude.{ℕ, List, map}
use Rattle.target_law.specs.Cycles.{StateValue}
use Rattle.target_law.specs.Values.{Values}

abbrev pub state_at : {Core Chan Inner Channel : Type 0} → Values Core Chan Inner Channel → (clock : ℕ) → List Core → List Chan → StateValue Inner Channel
state_at values clock cores chans = record { clock = clock; cores = map values.core cores; chans = map values.chan chans }
