-- The machine and the notes at the end of a run.
use Rattle.std.specs.Prelude.{◌≡◌, ℕ, List, [], All, IsTrue, sum_by}
use Rattle.slack_base.specs.declared.images.Image.{Image}
use Rattle.slack_base.specs.declared.configs.RawConfig.{RawConfig}
use Rattle.slack_base.specs.declared.notes.Interval.{Interval}
use Rattle.slack_base.specs.declared.steps.Step.{Step}
use Rattle.bus_model.specs.Channels.{ChannelValue}
use Rattle.timed_core.specs.Code.{code_of}
use Rattle.timed_core.specs.Cores.{HartValue}
use Rattle.target_law.specs.Cycles.{StateValue, lockstep}
use Rattle.target_law.specs.Rules.{Rules}
use Rattle.target_law.specs.Runs.{Ends}
use Rattle.target_law.specs.Stops.{Stops}
use Rattle.target_law.specs.Ticks.{cycles_of}
use Rattle.lockstep_model.specs.Rules.{rules_of}
use Rattle.lockstep_model.specs.Start.{start_of}
use Rattle.sim_words.specs.declared.values.Mode.{Mode}
use Rattle.sim_words.specs.declared.values.Mode.TheVariants.{Lockstep, Quantum}
use Rattle.io_edge.specs.Holds.{Holds}
use Rattle.violation_watch.specs.BoundedNotes.{Kind, IsBoundedBy}
use Rattle.pacing.specs.Exact.{seen_of}
use Rattle.spec_run.specs.LockstepEnds.{IsLockstepAt}
use Rattle.image_run.specs.Modes.{is_exact, is_noted, limit_in, step_in}

module _ {Inner Chan : Type 0} (rules : Rules Inner Chan) where
  -- a run whose intervals are drifts of one kind, each noted, left these notes and this state
  abbrev pub RunsBy : Kind rules → (interval limit : ℕ) → (s : StateValue Inner Chan) → List Interval → (e : StateValue Inner Chan) → Type 0
  RunsBy kind interval limit s notes e = Ends rules interval limit (IsBoundedBy rules kind) s notes e

  -- a run in this mode, by these steps if it is of a given interleaving, and under a gate that holds cores so if it is of
  -- threads, left these notes and this state: it went from interval to interval, each as the mode allows
  abbrev pub IsRunFrom : Holds → RawConfig → Mode → List Step → (s : StateValue Inner Chan) → List Interval → (e : StateValue Inner Chan) → Type 0
  IsRunFrom holds config mode steps s notes e = Ends rules config.interval (limit_in mode config) (step_in rules holds mode config steps) s notes e

  -- in an exact mode it ended as lockstep does
  abbrev pub IsExactIn : RawConfig → Mode → (s e : StateValue Inner Chan) → Type 0
  IsExactIn config mode s e = IsTrue (is_exact mode config) → IsLockstepAt rules config.interval config.limit s e

-- in a mode that notes each interval, the notes have all cycles that were run
abbrev pub IsCountedIn : Mode → List Interval → (cycles : ℕ) → Type 0
IsCountedIn mode notes cycles = IsTrue (is_noted mode) → sum_by cycles_of notes ≡ cycles

-- in quantum mode, where it is exact, the monitors record nothing
abbrev pub IsQuietIn : RawConfig → Mode → List Interval → Type 0
IsQuietIn config mode notes = mode ≡ Quantum → IsTrue (is_exact mode config) → All (λ note. seen_of note ≡ []) notes

-- the rules of the machine that runs an image
abbrev pub rules_for : RawConfig → Image → Rules HartValue ChannelValue
rules_for config image = rules_of config (code_of image config)

-- the machine is that of cycle-by-cycle simulation of the image, at the checkpoint where such a run stops
pub record IsLockstepEnd (config : RawConfig) (image : Image) (m : StateValue HartValue ChannelValue) : Type 0 where
  pub state : m ≡ lockstep (rules_for config image) (start_of config image) m.clock
  pub stops : Stops (rules_for config image) config.interval config.limit (start_of config image) m.clock

-- a run of the image left these notes and this machine
pub record IsRunEnd (holds : Holds) (config : RawConfig) (mode : Mode) (steps : List Step) (image : Image) (notes : List Interval) (m : StateValue HartValue ChannelValue) : Type 0 where
  pub ends : IsRunFrom (rules_for config image) holds config mode steps (start_of config image) notes m
  -- in an exact mode it ended as lockstep does
  pub exact : IsTrue (is_exact mode config) → IsLockstepEnd config image m
  -- cycle by cycle there is nothing to note
  pub silent : mode ≡ Lockstep → notes ≡ []
  pub counted : IsCountedIn mode notes m.clock
  pub quiet : IsQuietIn config mode notes
