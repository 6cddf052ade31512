-- The commands.
use Rattle.std.specs.Prelude.{ℕ, Bool, List, [], ◌∷◌, Option, codes}
use Rattle.sim_words.specs.declared.commands.Command.{Command}
use Rattle.sim_words.specs.declared.commands.Command.TheVariants as command
use Rattle.sim_words.specs.declared.commands.CommandSet.{CommandSet}
use Rattle.sim_words.specs.Tables.{entry_in}

-- each command, by its word
unfoldable pub commands : List (List ℕ × Command)
commands =
    (codes "run", command.Run)
    ∷ (codes "gen", command.Gen)
    ∷ (codes "asm", command.Asm)
    ∷ (codes "list", command.List)
    ∷ (codes "pack", command.Pack)
    ∷ []

-- the command of a word
unfoldable pub command_of : List ℕ → Option Command
command_of word = entry_in commands word

-- the command is one of these
abbrev pub has : CommandSet → Command → Bool
has set command.Run = set.run
has set command.Gen = set.generate
has set command.Asm = set.assemble
has set command.List = set.list
has set command.Pack = set.pack
