-- What the options say.
use Rattle.std.specs.Prelude.{ℕ, ◌==◌, Bool, true, false, not, List, [], ◌∷◌, is_some, is_none, unwrap_or}
use Rattle.slack_base.specs.declared.faults.WordFault.{WordFault}
use Rattle.slack_base.specs.declared.faults.WordFault.TheVariants as fault
use Rattle.slack_base.specs.declared.configs.RawConfig.{RawConfig}
use Rattle.sim_words.specs.declared.options.NumberOption.{NumberOption}
use Rattle.sim_words.specs.declared.options.NumberOption.TheVariants.{Base, Memory, Cores, Sets, Ways, Buses, Snoop, MemoryDelay, Transfer, Occupancy, Slack, Interval, Limit, Quantum, Seed}
use Rattle.sim_words.specs.declared.options.OptionName.{OptionName}
use Rattle.sim_words.specs.declared.options.OptionName.TheVariants as option
use Rattle.sim_words.specs.declared.values.Format.{Format}
use Rattle.sim_words.specs.declared.values.Format.TheVariants.{Text}
use Rattle.sim_words.specs.declared.values.Mode.{Mode}
use Rattle.sim_words.specs.declared.values.Mode.TheVariants.{Lockstep}
use Rattle.sim_words.specs.Numerals.{number_of}
use Rattle.sim_words.specs.Steps.{wrong_item}
use Rattle.sim_words.specs.Values.{mode_of, format_of, switch_of}

-- what the options say: the numbers before their bounds are tested, and the steps as they are written
pub record Choices : Type 0 where
  pub numbers : RawConfig
  pub mode : Mode
  pub format : Format
  pub notes : Bool
  pub check : Bool
  pub seed : ℕ
  pub steps : List ℕ

-- where no option is given
unfoldable pub defaults : Choices
defaults = record {
  numbers = record {
    cores = 1;
    base = 0;
    memory = 1048576;
    sets = 16;
    ways = 4;
    buses = 1;
    snoop = 2;
    memory_delay = 10;
    transfer = 3;
    occupancy = 2;
    slack = 8;
    interval = 1000;
    limit = 1000000;
    quantum = 0;
  };
  mode = Lockstep;
  format = Text;
  notes = false;
  check = false;
  seed = 1;
  steps = [];
}

-- with a number of an option
abbrev pub with_number : NumberOption → ℕ → Choices → Choices
with_number Base n c = record c { numbers = record c.numbers { base = n } }
with_number Memory n c = record c { numbers = record c.numbers { memory = n } }
with_number Cores n c = record c { numbers = record c.numbers { cores = n } }
with_number Sets n c = record c { numbers = record c.numbers { sets = n } }
with_number Ways n c = record c { numbers = record c.numbers { ways = n } }
with_number Buses n c = record c { numbers = record c.numbers { buses = n } }
with_number Snoop n c = record c { numbers = record c.numbers { snoop = n } }
with_number MemoryDelay n c = record c { numbers = record c.numbers { memory_delay = n } }
with_number Transfer n c = record c { numbers = record c.numbers { transfer = n } }
with_number Occupancy n c = record c { numbers = record c.numbers { occupancy = n } }
with_number Slack n c = record c { numbers = record c.numbers { slack = n } }
with_number Interval n c = record c { numbers = record c.numbers { interval = n } }
with_number Limit n c = record c { numbers = record c.numbers { limit = n } }
with_number Quantum n c = record c { numbers = record c.numbers { quantum = n } }
with_number Seed n c = record c { seed = n }

-- with the value of an option, where it is one that the option takes
abbrev pub with_value : OptionName → List ℕ → Choices → Choices
with_value (option.Number number) value c = with_number number (unwrap_or (number_of value) 0) c
with_value option.Mode value c = record c { mode = unwrap_or (mode_of value) Lockstep }
with_value option.Format value c = record c { format = unwrap_or (format_of value) Text }
with_value option.Notes value c = record c { notes = unwrap_or (switch_of value) false }
with_value option.Check value c = record c { check = unwrap_or (switch_of value) false }
with_value option.Steps value c = record c { steps = value }

-- the word isn't empty and begins with no `-`
abbrev pub is_value : List ℕ → Bool
is_value [] = false
is_value (byte ∷ bytes) = not (byte == 45)

-- the value is a number, where the option takes one
abbrev pub is_number_for : OptionName → List ℕ → Bool
is_number_for (option.Number number) value = is_some (number_of value)
is_number_for _ value = true

-- the value is one of the option's words, where it has such
abbrev pub is_word_for : OptionName → List ℕ → Bool
is_word_for option.Mode value = is_some (mode_of value)
is_word_for option.Format value = is_some (format_of value)
is_word_for option.Notes value = is_some (switch_of value)
is_word_for option.Check value = is_some (switch_of value)
is_word_for _ value = true

-- the value is steps, where the option takes them
abbrev pub is_steps_for : OptionName → List ℕ → Bool
is_steps_for option.Steps value = is_none (wrong_item value)
is_steps_for _ value = true

-- the tests of a value at its place, each with the fault where it fails
abbrev pub value_checks : OptionName → ℕ → List ℕ → List (Bool × WordFault)
value_checks name place value =
    (is_value value, fault.Form place)
    ∷ (is_number_for name value, fault.Number place)
    ∷ (is_word_for name value, fault.Value place)
    ∷ (is_steps_for name value, fault.Steps place (unwrap_or (wrong_item value) 0))
    ∷ []
