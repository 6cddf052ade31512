-- What is said of the lines that are not coherent.
use Rattle.std.specs.Prelude.{ℕ, List, ◌++◌, codes, flat_map, length}
use Rattle.plain_text.specs.Pieces.{field}

-- the line of text about one of them
unfoldable pub broken_line : ℕ → List ℕ
broken_line line = field (codes "broken line ") line ++ codes "\n"

-- how many there are, and a line about each
unfoldable pub text_of : List ℕ → List ℕ
text_of lines = field (codes "coherence ") (length lines) ++ codes "\n" ++ flat_map broken_line lines
