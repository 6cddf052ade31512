-- The option of a word, after those that were given.
use Rattle.std.specs.Prelude.{◌≡◌, ℕ, Bool, false, List, Option, None, Some}
use Rattle.slack_base.specs.Checks.{first_fault}
use Rattle.slack_base.specs.declared.faults.WordFault.{WordFault}
use Rattle.sim_words.specs.Given.{is_flagged}
use Rattle.sim_words.specs.Options.{option_of}
use Rattle.sim_words.specs.Pairs.{word_checks}
use Rattle.sim_words.specs.declared.commands.Command.{Command}
use Rattle.sim_words.specs.declared.options.OptionName.{OptionName}

-- the fault of a word that should be an option, where these were given
abbrev pub word_fault : Command → (flags : List Bool) → (place : ℕ) → (word : List ℕ) → Option WordFault
word_fault command flags place word = first_fault (word_checks command (is_flagged flags) place word)

-- there is no fault, and the word is this option, which wasn't given before
abbrev pub IsNewOption : Option WordFault → Command → (flags : List Bool) → (word : List ℕ) → OptionName → Type 0
IsNewOption fault command flags word option = (fault ≡ None) × (option_of command word ≡ Some option) × (is_flagged flags option ≡ false)
