-- The values that are one of some words.
use Rattle.std.specs.Prelude.{ℕ, Bool, true, false, List, [], ◌∷◌, Option, codes}
use Rattle.sim_words.specs.declared.values.Mode.{Mode}
use Rattle.sim_words.specs.declared.values.Mode.TheVariants.{Lockstep, Quantum, Bounded, Speculative, Script}
use Rattle.sim_words.specs.declared.values.Format.{Format}
use Rattle.sim_words.specs.declared.values.Format.TheVariants.{Text, Json, Dump}
use Rattle.sim_words.specs.Tables.{entry_in}

unfoldable pub modes : List (List ℕ × Mode)
modes =
    (codes "lockstep", Lockstep)
    ∷ (codes "quantum", Quantum)
    ∷ (codes "bounded", Bounded)
    ∷ (codes "speculative", Speculative)
    ∷ (codes "script", Script)
    ∷ []

unfoldable pub mode_of : List ℕ → Option Mode
mode_of word = entry_in modes word

unfoldable pub formats : List (List ℕ × Format)
formats = (codes "text", Text) ∷ (codes "json", Json) ∷ (codes "dump", Dump) ∷ []

unfoldable pub format_of : List ℕ → Option Format
format_of word = entry_in formats word

unfoldable pub switches : List (List ℕ × Bool)
switches = (codes "on", true) ∷ (codes "off", false) ∷ []

unfoldable pub switch_of : List ℕ → Option Bool
switch_of word = entry_in switches word
