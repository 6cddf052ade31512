-- Reading the command words.
use Rattle.std.specs.Prelude.{ℕ, List, [], ◌∷◌, Option, Some, None, Result, Err, nat_lt, option_map, if◌then◌else◌}
use Rattle.slack_base.specs.declared.faults.WordFault.{WordFault}
use Rattle.slack_base.specs.declared.faults.WordFault.TheVariants as fault
use Rattle.slack_base.specs.declared.configs.ConfigFault.TheVariants as bound
use Rattle.slack_base.specs.declared.bounds.TheConstants.{GENERATED_MEMORY}
use Rattle.slack_base.specs.declared.configs.RawConfig.{RawConfig}
use Rattle.slack_base.specs.Bounds.{fault_of, settled}
use Rattle.sim_words.specs.declared.commands.Command.{Command}
use Rattle.sim_words.specs.declared.commands.Command.TheVariants as command
use Rattle.slack_base.specs.Checks.{or_else, unless_fault}
use Rattle.sim_words.specs.Commands.{command_of}
use Rattle.sim_words.specs.OrderValues.{OrderValue, order_value_in}
use Rattle.sim_words.specs.Pairs.{Pair, pairs_from, pairs_fault, choices_in}

-- the generated program needs this much memory
abbrev pub room_fault : Command → RawConfig → Option WordFault
room_fault command.Gen numbers = if nat_lt numbers.memory GENERATED_MEMORY then Some (fault.Bound (bound.Memory numbers.memory)) else None
room_fault _ numbers = None

-- the fault of the first bound that the numbers break, and then that of the command's own bound
unfoldable pub bound_fault : Command → RawConfig → Option WordFault
bound_fault command numbers = or_else (option_map fault.Bound (fault_of numbers)) (room_fault command numbers)

-- the first fault of a command's pairs, or else of the numbers
abbrev pub order_fault : Command → List Pair → Option WordFault
order_fault command pairs = or_else (pairs_fault command [] pairs) (bound_fault command (choices_in command pairs).numbers)

-- the order of a command with these pairs, or the first fault
abbrev pub order_of : Option Command → List Pair → Result OrderValue WordFault
order_of None pairs = Err fault.Command
order_of (Some command) pairs =
    unless_fault (order_fault command pairs) (order_value_in command (settled (choices_in command pairs).numbers) (choices_in command pairs))

-- the order that the words give, or their first fault
unfoldable pub words_of : List (List ℕ) → Result OrderValue WordFault
words_of [] = Err fault.Empty
words_of (word ∷ words) = order_of (command_of word) (pairs_from 1 words)
