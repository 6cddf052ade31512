-- Tables of names, in the order of their bytes.
use Rattle.std.specs.Prelude.{◌≡◌, ℕ, Bool, true, List, [], ◌∷◌, ◌&&◌, Option, map}
use Rattle.std.specs.Cmp.Lexicographic.{slice_cmp}
use Rattle.std.specs.Ordering.{nat_cmp, is_lt}
use Rattle.std.specs.Str.{bytes_eq}
use Rattle.std.specs.Map.{lookup}
use denote.Ref.{Bor}

-- the value beside a name
abbrev pub entry_in : {X : Type 0} → List (List ℕ × X) → List ℕ → Option X
entry_in table name = lookup (bytes_eq name) table

-- the rows of a table of the program
abbrev pub rows_of : {X : Type 0} → List (Bor (List ℕ) × X) → List (List ℕ × X)
rows_of {X} table = map {B = List ℕ × X} (λ (row : Bor (List ℕ) × X). (row.0.now, row.1)) table

-- a table has the entries of another, whatever their order: beside each name stands the same value, or none
abbrev pub HasEntriesOf : {X : Type 0} → List (List ℕ × X) → List (List ℕ × X) → Type 0
HasEntriesOf rows table = (name : List ℕ) → entry_in table name ≡ entry_in rows name

-- each name is below the next
abbrev pub is_sorted : {X : Type 0} → List (List ℕ × X) → Bool
is_sorted [] = true
is_sorted (row ∷ []) = true
is_sorted (row ∷ next ∷ rows) = is_lt (slice_cmp nat_cmp row.0 next.0) && is_sorted (next ∷ rows)
