-- Marks of a stored state's cores and channels.
use Rattle.std.specs.Prelude.{◌≡◌, All, Some, None, map}
use Rattle.target_law.specs.Cycles.{StateValue}
use Rattle.target_law.specs.Values.{Values}
use Rattle.target_law.specs.declared.states.State.{State}

module _ {T Core Chan Inner Channel : Type 0} (values : Values Core Chan Inner Channel) where
  -- each core and each channel is marked, at its value in this state
  pub record IsMarkedAt (s : StateValue Inner Channel) (now : State T Core Chan) : Type 0 where
    pub cores : map values.saved_core now.cores ≡ map Some s.cores
    pub chans : map values.saved_chan now.chans ≡ map Some s.chans

  -- each core and each channel has the mark that it had
  pub record SameMarks (before now : State T Core Chan) : Type 0 where
    pub cores : map values.saved_core now.cores ≡ map values.saved_core before.cores
    pub chans : map values.saved_chan now.chans ≡ map values.saved_chan before.chans

  -- no core and no channel is marked
  pub record IsUnmarked (now : State T Core Chan) : Type 0 where
    pub cores : All (λ core. values.saved_core core ≡ None) now.cores
    pub chans : All (λ chan. values.saved_chan chan ≡ None) now.chans
