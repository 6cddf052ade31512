-- What a run that ends as lockstep does says of coherence.
use Rattle.std.specs.Prelude.{◌≡◌, ◌⊎◌, [], Some, IsTrue, true, codes}
use Rattle.bus_model.specs.Channels.{ChannelValue}
use Rattle.timed_core.specs.Cores.{HartValue}
use Rattle.target_law.specs.Cycles.{StateValue}
use Rattle.coherence_law.specs.Breaks.{breaks_of}
use Rattle.sim_words.specs.OrderValues.{OrderValue}
use Rattle.sim_words.specs.declared.commands.Command.TheVariants as command
use Rattle.image_run.specs.Modes.{is_exact}
use Rattle.simulate_call.specs.RunValues.{RunValue}
use Rattle.simulate_call.specs.Texts.{coherence_in}

-- an image is to be run in a mode whose runs end as lockstep does
pub record IsExactRun (order : OrderValue) : Type 0 where
  pub exact : IsTrue (is_exact order.mode order.numbers)
  pub runs : (order.command ≡ command.Run) ⊎ (order.command ≡ command.Gen)

-- no line breaks in the machine that is handed back; where the check is asked for, its text says so
pub record IsUnbroken (order : OrderValue) (run : RunValue) : Type 0 where
  pub machine : StateValue HartValue ChannelValue
  pub end : run.end ≡ Some machine
  pub unbroken : breaks_of machine ≡ []
  pub says : order.check ≡ true → coherence_in order.check machine ≡ codes "coherence 0\n"
