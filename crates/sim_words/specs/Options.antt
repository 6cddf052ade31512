-- The options of the commands.
use Rattle.std.specs.Prelude.{ℕ, true, false, List, [], ◌∷◌, Option, Some, None, codes}
use Rattle.std.specs.Bool.{then_some}
use Rattle.sim_words.specs.declared.commands.Command.{Command}
use Rattle.sim_words.specs.declared.commands.CommandSet.{CommandSet}
use Rattle.sim_words.specs.declared.options.OptionName.{OptionName}
use Rattle.sim_words.specs.declared.options.OptionName.TheVariants.{Number, Mode, Format, Notes, Check, Steps}
use Rattle.sim_words.specs.declared.options.NumberOption.TheVariants.{Base, Memory, Cores, Sets, Ways, Buses, Snoop, MemoryDelay, Transfer, Occupancy, Slack, Interval, Limit, Quantum, Seed}
use Rattle.sim_words.specs.Commands.{has}
use Rattle.sim_words.specs.Tables.{entry_in}

-- all commands
abbrev pub every_command : CommandSet
every_command = record { run = true; generate = true; assemble = true; list = true; pack = true }

abbrev pub all_but_asm : CommandSet
all_but_asm = record { run = true; generate = true; assemble = false; list = true; pack = true }

abbrev pub run_gen : CommandSet
run_gen = record { run = true; generate = true; assemble = false; list = false; pack = false }

abbrev pub run_alone : CommandSet
run_alone = record { run = true; generate = false; assemble = false; list = false; pack = false }

abbrev pub gen_alone : CommandSet
gen_alone = record { run = false; generate = true; assemble = false; list = false; pack = false }

-- each option by its word: the value that it takes, and the commands that have it
unfoldable pub options : List (List ℕ × (OptionName × CommandSet))
options =
    (codes "--base", (Number Base, every_command))
    ∷ (codes "--memory", (Number Memory, all_but_asm))
    ∷ (codes "--cores", (Number Cores, run_gen))
    ∷ (codes "--sets", (Number Sets, run_gen))
    ∷ (codes "--ways", (Number Ways, run_gen))
    ∷ (codes "--buses", (Number Buses, run_gen))
    ∷ (codes "--snoop", (Number Snoop, run_gen))
    ∷ (codes "--memory-delay", (Number MemoryDelay, run_gen))
    ∷ (codes "--transfer", (Number Transfer, run_gen))
    ∷ (codes "--occupancy", (Number Occupancy, run_gen))
    ∷ (codes "--slack", (Number Slack, run_gen))
    ∷ (codes "--interval", (Number Interval, run_gen))
    ∷ (codes "--limit", (Number Limit, run_gen))
    ∷ (codes "--quantum", (Number Quantum, run_gen))
    ∷ (codes "--mode", (Mode, run_gen))
    ∷ (codes "--format", (Format, run_gen))
    ∷ (codes "--notes", (Notes, run_gen))
    ∷ (codes "--check", (Check, run_gen))
    ∷ (codes "--steps", (Steps, run_alone))
    ∷ (codes "--seed", (Number Seed, gen_alone))
    ∷ []

-- the option of a row, where the command has it
abbrev pub option_in : Command → Option (OptionName × CommandSet) → Option OptionName
option_in command None = None
option_in command (Some row) = then_some (has row.1 command) row.0

-- the option of a command that has this word
unfoldable pub option_of : Command → List ℕ → Option OptionName
option_of command word = option_in command (entry_in options word)

-- each option's own number
abbrev pub index_of : OptionName → ℕ
index_of (Number Base) = 0
index_of (Number Memory) = 1
index_of (Number Cores) = 2
index_of (Number Sets) = 3
index_of (Number Ways) = 4
index_of (Number Buses) = 5
index_of (Number Snoop) = 6
index_of (Number MemoryDelay) = 7
index_of (Number Transfer) = 8
index_of (Number Occupancy) = 9
index_of (Number Slack) = 10
index_of (Number Interval) = 11
index_of (Number Limit) = 12
index_of (Number Quantum) = 13
index_of (Number Seed) = 14
index_of Mode = 15
index_of Format = 16
index_of Notes = 17
index_of Check = 18
index_of Steps = 19
