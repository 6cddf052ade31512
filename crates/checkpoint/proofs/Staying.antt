-- Marks that stay.
use Rattle.std.proofs.Common.{◌∙◌}
use Rattle.target_law.specs.Cycles.{StateValue}
use Rattle.target_law.specs.Marks.{IsMarkedAt, SameMarks}
use Rattle.target_law.specs.Values.{Values}
use Rattle.target_law.specs.declared.states.State.{State}

-- what was marked at a state is so while the marks are the same
pub still_marked : {T Core Chan Inner Channel : Type 0} (values : Values Core Chan Inner Channel) (s : StateValue Inner Channel) (before now : State T Core Chan)
    → IsMarkedAt values s before → SameMarks values before now → IsMarkedAt values s now
still_marked values s before now marked same = record { cores = same.cores ∙ marked.cores; chans = same.chans ∙ marked.chans }
