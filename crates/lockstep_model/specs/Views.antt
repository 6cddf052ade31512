-- The value of a stored machine.
use Rattle.std.specs.Prelude.{List, map}
use Rattle.slack_base.specs.Inboxes.{CoreValue}
use Rattle.slack_base.specs.Marks.{Marked}
use Rattle.bus_model.specs.Channels.{ChannelValue}
use Rattle.timed_core.specs.Cores.{HartValue}
use Rattle.timed_core.specs.Views.{MarkedCore}
use Rattle.target_law.specs.Cycles.{StateValue}
use Rattle.target_law.specs.declared.states.State.{State}
use Rattle.lockstep_model.specs.declared.rv_targets.RvTarget.{RvTarget}

-- the present values of what may be marked
abbrev pub values_of : {X : Type 0} → List (Marked X) → List X
values_of xs = map (λ x. x.value) xs

-- the same of cores
abbrev pub cores_of : List MarkedCore → List (CoreValue HartValue)
cores_of cores = map (λ core. core.value) cores

-- the cores and the channels as they are now, whatever their marks
abbrev pub machine_of : State RvTarget MarkedCore (Marked ChannelValue) → StateValue HartValue ChannelValue
machine_of m = record { clock = m.clock; cores = cores_of m.cores; chans = values_of m.chans }
