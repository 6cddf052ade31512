-- What a command makes of its input.
use Rattle.std.specs.Prelude.{◌≡◌, ℕ, List, ◌++◌, IsOkAnd}
use Rattle.slack_base.specs.declared.images.Image.{Image}
use Rattle.slack_base.specs.declared.notes.Interval.{Interval}
use Rattle.image_load.specs.Flat.{flat_file}
use Rattle.image_load.specs.Packed.{packed_file}
use Rattle.bus_model.specs.Channels.{ChannelValue}
use Rattle.timed_core.specs.Cores.{HartValue}
use Rattle.target_law.specs.Cycles.{StateValue}
use Rattle.slack_base.specs.Images.{one_piece}
use Rattle.rv_asm.specs.Programs.{IsAssembly}
use Rattle.sim_words.specs.OrderValues.{OrderValue}
use Rattle.sim_words.specs.declared.commands.Command.{Command}
use Rattle.sim_words.specs.declared.commands.Command.TheVariants as command
use Rattle.stat_report.specs.Listing.{IsListing}
use Rattle.workload_gen.specs.Programs.{IsProgram}
use Rattle.io_edge.specs.Holds.{Holds}
use Rattle.image_run.specs.Ends.{IsRunEnd}
use Rattle.simulate_call.specs.Inputs.{image_told}
use Rattle.simulate_call.specs.RunValues.{RunValue, no_run, run_of}
use Rattle.simulate_call.specs.Texts.{run_text, gen_line}

-- the image was run in the order's mode, under a gate that holds cores so, and left this machine and these notes
abbrev pub IsRun : Holds → OrderValue → Image → List Interval → StateValue HartValue ChannelValue → Type 0
IsRun holds order image notes machine = IsRunEnd holds order.numbers order.mode order.steps image notes machine

-- `run`: the image that the input gives was run, and the text is the run's
pub record IsRunOutput (holds : Holds) (order : OrderValue) (input : List ℕ) (run : RunValue) (text : List ℕ) : Type 0 where
  pub machine : StateValue HartValue ChannelValue
  pub notes : List Interval
  pub ran : IsOkAnd (image_told order.numbers input) (λ image. IsRun holds order image notes machine)
  pub hands_back : run ≡ run_of order.numbers.cores notes machine
  pub whole : text ≡ run_text order machine run

-- `gen`: the program of the seed was run, and the text is the run's behind a line that names the seed
pub record IsGenOutput (holds : Holds) (order : OrderValue) (run : RunValue) (text : List ℕ) : Type 0 where
  pub machine : StateValue HartValue ChannelValue
  pub notes : List Interval
  pub image : Image
  pub program : IsProgram order.seed order.numbers.base image
  pub ran : IsRun holds order image notes machine
  pub hands_back : run ≡ run_of order.numbers.cores notes machine
  pub whole : text ≡ gen_line order.seed ++ run_text order machine run

-- `asm`: the text is the flat file of the program that the input says
pub record IsAsmOutput (order : OrderValue) (input : List ℕ) (run : RunValue) (text : List ℕ) : Type 0 where
  pub bytes : List ℕ
  pub assembly : IsAssembly input order.numbers.base (one_piece order.numbers.base order.numbers.base bytes)
  pub hands_back : run ≡ no_run
  pub whole : text ≡ flat_file order.numbers.base order.numbers.base bytes

-- `list`: the text is the listing of the image that the input gives
pub record IsListOutput (order : OrderValue) (input : List ℕ) (run : RunValue) (text : List ℕ) : Type 0 where
  pub hands_back : run ≡ no_run
  pub listed : IsOkAnd (image_told order.numbers input) (λ image. IsListing image text)

-- `pack`: the text is the SLK2 file of the image that the input gives
pub record IsPackOutput (order : OrderValue) (input : List ℕ) (run : RunValue) (text : List ℕ) : Type 0 where
  pub hands_back : run ≡ no_run
  pub packed : IsOkAnd (image_told order.numbers input) (λ image. text ≡ packed_file image)

-- what a command hands back, and the text that it writes
abbrev pub IsOutputBy : Command → Holds → OrderValue → (input : List ℕ) → RunValue → (text : List ℕ) → Type 0
IsOutputBy command.Run holds order input run text = IsRunOutput holds order input run text
IsOutputBy command.Gen holds order input run text = IsGenOutput holds order run text
IsOutputBy command.Asm holds order input run text = IsAsmOutput order input run text
IsOutputBy command.List holds order input run text = IsListOutput order input run text
IsOutputBy command.Pack holds order input run text = IsPackOutput order input run text

abbrev pub IsOutput : Holds → OrderValue → (input : List ℕ) → RunValue → (text : List ℕ) → Type 0
IsOutput holds order input run text = IsOutputBy order.command holds order input run text
