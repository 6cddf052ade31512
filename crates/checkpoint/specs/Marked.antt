-- States that are marked as a whole.
use Rattle.target_law.specs.Cycles.{StateValue}
use Rattle.target_law.specs.Marks.{IsMarkedAt}
use Rattle.target_law.specs.Values.{Values}
use Rattle.target_law.specs.declared.states.State.{State}

-- each core and each channel is marked, at its value in some state
abbrev pub IsMarkedWhole : {T Core Chan Inner Channel : Type 0} → Values Core Chan Inner Channel → State T Core Chan → Type 0
IsMarkedWhole {T} {Core} {Chan} {Inner} {Channel} values now = (s : StateValue Inner Channel) × IsMarkedAt values s now
