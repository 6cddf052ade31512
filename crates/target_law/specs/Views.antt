-- The value of a stored state.
use Rattle.std.specs.Prelude.{map}
use Rattle.target_law.specs.Cycles.{StateValue}
use Rattle.target_law.specs.Values.{Values}
use Rattle.target_law.specs.declared.states.State.{State}

abbrev pub state_of : {T Core Chan Inner Channel : Type 0} → Values Core Chan Inner Channel → State T Core Chan → StateValue Inner Channel
state_of values s = record { clock = s.clock; cores = map values.core s.cores; chans = map values.chan s.chans }
