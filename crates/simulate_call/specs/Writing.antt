-- What a call wrote.
use Rattle.std.specs.Prelude.{◌≡◌, ℕ, List, Option}
use Rattle.io_edge.specs.Holds.{Holds}
use Rattle.io_edge.specs.Streams.{with_after}
use Rattle.io_edge.specs.Whole.{AppendsFront}
use Rattle.sim_words.specs.OrderValues.{OrderValue}
use Rattle.simulate_call.specs.Inputs.{IsInput}
use Rattle.simulate_call.specs.Outputs.{IsOutput}
use Rattle.simulate_call.specs.RunValues.{RunValue}
use Rattle.simulate_call.specs.declared.answers.Answer.{Answer}
use Rattle.simulate_call.specs.declared.answers.Answer.TheVariants.{WriteFault, Limit, Done}

-- the whole text stands after what the sink held before, or a front of it where the sink failed
abbrev pub IsWritten : Answer → (written written_after : Option (List ℕ)) → (text : List ℕ) → Type 0
IsWritten (Done all_zero) written written_after text = written_after ≡ with_after written text
IsWritten (Limit cycle running) written written_after text = written_after ≡ with_after written text
IsWritten WriteFault written written_after text = AppendsFront written written_after text
IsWritten _ written written_after text = ⊥

-- a call read its input, and handed back and wrote what its command makes of it
pub record Wrote (holds : Holds) (order : OrderValue) (answer : Answer) (run : RunValue) (left left_after written written_after : Option (List ℕ)) : Type 0 where
  pub input : List ℕ
  pub read : IsInput order.command left left_after input
  pub text : List ℕ
  pub output : IsOutput holds order input run text
  pub is_written : IsWritten answer written written_after text
