-- The labels of a line, and what stands after them.
use Rattle.std.specs.Prelude.{ℕ, ◌==◌, ◌||◌, Bool, false, List, [], ◌∷◌, Option, Some, None, is_some, fold, option_and_then, if◌then◌else◌}
use Rattle.std.specs.List.{before_first, slice_split, join_with_byte}
use Rattle.std.specs.Option.{option_or}
use Rattle.std.specs.Str.{bytes_eq}
use Rattle.rv_asm.specs.Bytes.{is_name, trim, trim_start, parts_at}
use Rattle.rv_asm.specs.Operands.{Places}

-- the line without its comment and the blanks at its ends
unfoldable pub uncommented : List ℕ → List ℕ
uncommented line = trim (before_first (λ b. b == 35) line)

-- the names that stand before colons, up to the first that is no name; the last piece has no colon behind it
unfoldable pub names_in : List (List ℕ) → List (List ℕ)
names_in [] = []
names_in (piece ∷ []) = []
names_in (piece ∷ next ∷ pieces) = if is_name (trim_start piece) then trim_start piece ∷ names_in (next ∷ pieces) else []

-- what stands after them
unfoldable pub rest_in : List (List ℕ) → List ℕ
rest_in [] = []
rest_in (piece ∷ []) = trim_start piece
rest_in (piece ∷ next ∷ pieces) =
    if is_name (trim_start piece) then rest_in (next ∷ pieces) else trim_start (join_with_byte 58 (piece ∷ next ∷ pieces))

-- the labels that a text begins with, and the statement after them
unfoldable pub names_of : List ℕ → List (List ℕ)
names_of text = names_in (slice_split (λ b. b == 58) text)

unfoldable pub statement_of : List ℕ → List ℕ
statement_of text = rest_in (slice_split (λ b. b == 58) text)

-- no label is defined
abbrev pub no_places : Places
no_places name = None

-- a label is defined at a place; where it was defined before, it keeps the first
unfoldable pub with_label : ℕ → Places → List ℕ → Places
with_label here places name other = option_or (places other) (if bytes_eq name other then Some here else None)

-- the labels are defined at a place
abbrev pub with_labels : ℕ → Places → List (List ℕ) → Places
with_labels here places names = fold (with_label here) places names

-- one of the labels was defined before
unfoldable pub redefines : ℕ → Places → List (List ℕ) → Bool
redefines here places [] = false
redefines here places (name ∷ names) = is_some (places name) || redefines here (with_label here places name) names

-- the label that a text begins with, and what stands after its colon
unfoldable pub label_of : List ℕ → Option (List ℕ × List ℕ)
label_of text = option_and_then (λ parts. if is_name (trim_start parts.0) then Some (trim_start parts.0, parts.1) else None) (parts_at 58 text)
