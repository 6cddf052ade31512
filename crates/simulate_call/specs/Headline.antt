-- What a call in speculative mode hands back and writes.
use Rattle.std.specs.Prelude.{◌≡◌, ◌⊎◌, ◌*◌, ◌++◌, ℕ, List, Option, Some, Ok, sum_by}
use Rattle.slack_base.specs.declared.configs.RawConfig.{RawConfig}
use Rattle.slack_base.specs.declared.images.Image.{Image}
use Rattle.io_edge.specs.Holds.{Holds}
use Rattle.bus_model.specs.Channels.{ChannelValue}
use Rattle.timed_core.specs.Cores.{HartValue}
use Rattle.target_law.specs.Cycles.{StateValue, lockstep}
use Rattle.target_law.specs.Stops.{Stops}
use Rattle.target_law.specs.Ticks.{replayed_of}
use Rattle.lockstep_model.specs.Start.{start_of}
use Rattle.spec_run.specs.Speculative.{IsSpeculativeRun}
use Rattle.sim_words.specs.OrderValues.{OrderValue}
use Rattle.sim_words.specs.declared.commands.Command.{Command}
use Rattle.sim_words.specs.declared.commands.Command.TheVariants as command
use Rattle.sim_words.specs.declared.values.Mode.TheVariants.{Speculative}
use Rattle.workload_gen.specs.Programs.{IsProgram}
use Rattle.image_run.specs.Ends.{rules_for}
use Rattle.simulate_call.specs.Inputs.{IsInput, image_told}
use Rattle.simulate_call.specs.RunValues.{RunValue}
use Rattle.simulate_call.specs.Texts.{run_text, gen_line}
use Rattle.simulate_call.specs.Writing.{IsWritten}
use Rattle.simulate_call.specs.declared.answers.Answer.{Answer}

-- an image is to be run in speculative mode
pub record IsSpeculation (order : OrderValue) : Type 0 where
  pub mode : order.mode ≡ Speculative
  pub runs : (order.command ≡ command.Run) ⊎ (order.command ≡ command.Gen)

-- what a run of an image in speculative mode hands back, under a gate that holds cores so
pub record IsSpeculated (holds : Holds) (config : RawConfig) (image : Image) (run : RunValue) (m : StateValue HartValue ChannelValue) : Type 0 where
  -- the clock where cycle-by-cycle simulation of the image stops
  pub stop : ℕ
  pub stops : Stops (rules_for config image) config.interval config.limit (start_of config image) stop
  -- the machine is that of cycle-by-cycle simulation to there
  pub machine : m ≡ lockstep (rules_for config image) (start_of config image) stop
  pub end : run.end ≡ Some m
  -- each interval has one note, of a drift that was kept or rolled back
  pub notes : IsSpeculativeRun (rules_for config image) holds config.slack config.interval config.limit (start_of config image) run.notes m
  -- in drifts each core ticked once in each cycle, and once more in the cycles of the intervals that were rolled back
  pub drift_ticks : run.drift_ticks ≡ config.cores * stop
  pub replay_ticks : run.replay_ticks ≡ config.cores * sum_by replayed_of run.notes

-- the image that a command runs: of all bytes that the source told, or generated
abbrev pub IsImageOf : Command → OrderValue → (left left_after : Option (List ℕ)) → Image → Type 0
IsImageOf command.Run order left left_after image = (bytes : List ℕ) × IsInput command.Run left left_after bytes × (image_told order.numbers bytes ≡ Ok image)
IsImageOf command.Gen order left left_after image = (left_after ≡ left) × IsProgram order.seed order.numbers.base image
IsImageOf _ order left left_after image = ⊥

-- the whole text of the run
abbrev pub text_by : Command → OrderValue → StateValue HartValue ChannelValue → RunValue → List ℕ
text_by command.Gen order m run = gen_line order.seed ++ run_text order m run
text_by _ order m run = run_text order m run

-- a call read its image, and handed back and wrote what cycle-by-cycle simulation of it to the same checkpoint gives
pub record Delivers (holds : Holds) (order : OrderValue) (answer : Answer) (run : RunValue) (left left_after written written_after : Option (List ℕ)) : Type 0 where
  pub image : Image
  pub read : IsImageOf order.command order left left_after image
  pub machine : StateValue HartValue ChannelValue
  pub speculated : IsSpeculated holds order.numbers image run machine
  pub is_written : IsWritten answer written written_after (text_by order.command order machine run)
