-- The pairs of an option and a value.
use Rattle.std.specs.Prelude.{ℕ, ◌+◌, Bool, false, not, List, [], ◌∷◌, ◌++◌, Option, Some, None, codes, nat_eq, is_some, fold}
use Rattle.std.specs.List.{starts_with}
use Rattle.std.specs.Option.{option_to_list}
use Rattle.slack_base.specs.declared.faults.WordFault.{WordFault}
use Rattle.slack_base.specs.declared.faults.WordFault.TheVariants as fault
use Rattle.sim_words.specs.declared.commands.Command.{Command}
use Rattle.sim_words.specs.declared.options.OptionName.{OptionName}
use Rattle.slack_base.specs.Checks.{first_fault, or_else}
use Rattle.sim_words.specs.Given.{is_given}
use Rattle.sim_words.specs.Options.{option_of}
use Rattle.sim_words.specs.Settings.{Choices, defaults, with_value, value_checks}

-- two words, and the place of the first
pub record Pair : Type 0 where
  pub place : ℕ
  pub option : List ℕ
  pub value : List ℕ

-- the pairs of words whose first stands at this place; a value that is missing is read as an empty word
abbrev pub pairs_from : ℕ → List (List ℕ) → List Pair
pairs_from place [] = []
pairs_from place (option ∷ []) = record { place = place; option = option; value = [] } ∷ []
pairs_from place (option ∷ value ∷ words) = record { place = place; option = option; value = value } ∷ pairs_from (place + 2) words

-- the word begins with two `-`
abbrev pub is_dashed : List ℕ → Bool
is_dashed word = starts_with nat_eq word (codes "--")

-- the option is one that was given
abbrev pub is_again : (OptionName → Bool) → Option OptionName → Bool
is_again given None = false
is_again given (Some option) = given option

-- the tests of an option's word at its place, where some were given before: each with the fault where it fails
abbrev pub word_checks : Command → (OptionName → Bool) → ℕ → List ℕ → List (Bool × WordFault)
word_checks command given place word =
    (is_dashed word, fault.Form place)
    ∷ (is_some (option_of command word), fault.Option place)
    ∷ (not (is_again given (option_of command word)), fault.Twice place)
    ∷ []

-- the tests of a value, where there is an option
abbrev pub checks_for : Option OptionName → ℕ → List ℕ → List (Bool × WordFault)
checks_for None place value = []
checks_for (Some option) place value = value_checks option place value

-- the fault of a pair, where these options were given before
abbrev pub pair_fault : Command → List OptionName → Pair → Option WordFault
pair_fault command before pair =
    first_fault
    (word_checks command (is_given before) pair.place pair.option ++ checks_for (option_of command pair.option) (pair.place + 1) pair.value)

-- the fault of the first pair that has one, where these options were given before them
abbrev pub pairs_fault : Command → List OptionName → List Pair → Option WordFault
pairs_fault command before [] = None
pairs_fault command before (pair ∷ pairs) =
    or_else (pair_fault command before pair) (pairs_fault command (option_to_list (option_of command pair.option) ++ before) pairs)

-- with the value of an option, if there is one
abbrev pub with_value_of : Option OptionName → List ℕ → Choices → Choices
with_value_of None value choices = choices
with_value_of (Some option) value choices = with_value option value choices

-- with what a pair says
abbrev pub with_pair : Command → Choices → Pair → Choices
with_pair command choices pair = with_value_of (option_of command pair.option) pair.value choices

-- what pairs without a fault say: each over the defaults
abbrev pub choices_in : Command → List Pair → Choices
choices_in command pairs = fold (with_pair command) defaults pairs
