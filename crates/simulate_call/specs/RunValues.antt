-- What a call hands back of a run beside its answer.
use Rattle.std.specs.Prelude.{ℕ, List, [], Option, Some, None}
use Rattle.slack_base.specs.declared.notes.Interval.{Interval}
use Rattle.slack_base.specs.Marks.{Marked}
use Rattle.bus_model.specs.Channels.{ChannelValue}
use Rattle.timed_core.specs.Cores.{HartValue}
use Rattle.timed_core.specs.Views.{MarkedCore}
use Rattle.target_law.specs.Cycles.{StateValue}
use Rattle.target_law.specs.declared.states.State.{State}
use Rattle.lockstep_model.specs.Views.{machine_of}
use Rattle.lockstep_model.specs.declared.rv_targets.RvTarget.{RvTarget}
use Rattle.image_run.specs.declared.runs.Ran.{Ran}
use Rattle.target_law.specs.Ticks.{drift_ticks_of, replay_ticks_of}
use Rattle.simulate_call.specs.declared.answers.Finish.{Finish}

-- the machine at the end, if one was run, the notes of its intervals, and the ticks that its cores made in drifts and in
-- replays
pub record RunValue : Type 0 where
  pub end : Option (StateValue HartValue ChannelValue)
  pub notes : List Interval
  pub drift_ticks : ℕ
  pub replay_ticks : ℕ

-- nothing was run
abbrev pub no_run : RunValue
no_run = record { end = None; notes = []; drift_ticks = 0; replay_ticks = 0 }

-- a run of so many cores: the ticks follow from the notes
abbrev pub run_of : (cores : ℕ) → List Interval → StateValue HartValue ChannelValue → RunValue
run_of cores notes m = record { end = Some m; notes = notes; drift_ticks = drift_ticks_of cores notes; replay_ticks = replay_ticks_of cores notes }

abbrev pub value_at : Option (State RvTarget MarkedCore (Marked ChannelValue)) → Option (StateValue HartValue ChannelValue)
value_at None = None
value_at (Some m) = Some (machine_of m)

-- what a call handed back
abbrev pub run_in : Finish → RunValue
run_in f = record { end = value_at f.end; notes = f.notes; drift_ticks = f.drift_ticks; replay_ticks = f.replay_ticks }

-- what a command is to hand back, which ran an image or didn't
abbrev pub run_value : Option Ran → RunValue
run_value None = no_run
run_value (Some r) = record { end = Some (machine_of r.machine); notes = r.notes; drift_ticks = r.drift_ticks; replay_ticks = r.replay_ticks }
