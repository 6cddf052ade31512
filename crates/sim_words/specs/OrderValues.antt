-- What a contract sees of an order.
use Rattle.std.specs.Prelude.{ℕ, Bool, List}
use Rattle.slack_base.specs.declared.configs.RawConfig.{RawConfig}
use Rattle.slack_base.specs.declared.steps.Step.{Step}
use Rattle.slack_base.specs.Numbers.{numbers_of}
use Rattle.sim_words.specs.declared.commands.Command.{Command}
use Rattle.sim_words.specs.declared.orders.Order.{Order}
use Rattle.sim_words.specs.declared.values.Format.{Format}
use Rattle.sim_words.specs.declared.values.Mode.{Mode}
use Rattle.sim_words.specs.Settings.{Choices}
use Rattle.sim_words.specs.Steps.{steps_of}

-- an order, with the numbers of its configuration
pub record OrderValue : Type 0 where
  pub command : Command
  pub numbers : RawConfig
  pub mode : Mode
  pub format : Format
  pub notes : Bool
  pub check : Bool
  pub seed : ℕ
  pub steps : List Step

abbrev pub order_value : Order → OrderValue
order_value order = record {
  command = order.command;
  numbers = numbers_of order.config;
  mode = order.mode;
  format = order.format;
  notes = order.notes;
  check = order.check;
  seed = order.seed;
  steps = order.steps;
}

-- the order of a command, with what its options say
abbrev pub order_value_in : Command → RawConfig → Choices → OrderValue
order_value_in command numbers choices = record {
  command = command;
  numbers = numbers;
  mode = choices.mode;
  format = choices.format;
  notes = choices.notes;
  check = choices.check;
  seed = choices.seed;
  steps = steps_of choices.steps;
}
