-- Tables of words.
use Rattle.std.specs.Prelude.{ℕ, List, Option, map}
use Rattle.std.specs.Str.{bytes_eq}
use Rattle.std.specs.Map.{lookup}
use denote.Ref.{Bor}

-- the value beside a word
abbrev pub entry_in : {X : Type 0} → List (List ℕ × X) → List ℕ → Option X
entry_in table word = lookup (λ name. bytes_eq name word) table

-- the rows of a table of the program
abbrev pub rows_of : {X : Type 0} → List (Bor (List ℕ) × X) → List (List ℕ × X)
rows_of {X} table = map {B = List ℕ × X} (λ (row : Bor (List ℕ) × X). (row.0.now, row.1)) table
