-- The lines of a text.
use Rattle.std.specs.Prelude.{◌≡◌, ℕ, ◌+◌, ◌==◌, Bool, List, [], ◌∷◌, Option, Some, None, Result, Ok, Err, length, nat_lt, not, if◌then◌else◌}
use Rattle.std.specs.List.{list_all, position_or_len, before_first, after_first}
use Rattle.std.specs.Str.Lines.{strip_carriage_return}
use Rattle.slack_base.specs.declared.faults.AsmKind.{AsmKind}
use Rattle.slack_base.specs.declared.faults.AsmKind.TheVariants.{Byte, Twice}
use Rattle.rv_asm.specs.Bytes.{is_printable}
use Rattle.rv_asm.specs.Instructions.{Code, Stands, code_of}
use Rattle.rv_asm.specs.Kinds.{◌>>=◌}
use Rattle.rv_asm.specs.Labels.{uncommented, names_of, statement_of, with_labels, redefines}
use Rattle.rv_asm.specs.Operands.{Places}

abbrev pub names : List ℕ → List (List ℕ)
names line = names_of (uncommented line)

abbrev pub statement : List ℕ → List ℕ
statement line = statement_of (uncommented line)

-- the place after a line: what stands after the labels, if anything, takes one word
unfoldable pub place_after : ℕ → List ℕ → ℕ
place_after here line = if not (length (statement line) == 0) then here + 1 else here

-- the labels of a text, from a place on
unfoldable pub places_from : Places → ℕ → List (List ℕ) → Places
places_from places here [] = places
places_from places here (line ∷ lines) =
    places_from (with_labels here places (names line)) (place_after here line) lines

abbrev pub statement_code : Places → ℕ → List ℕ → Result (Option Code) AsmKind
statement_code places here text =
    if length text == 0 then Ok None else (code_of places here text >>= λ code. Ok (Some code))

-- what a line stands for, if anything, or its first fault
unfoldable pub line_code_of : Places → ℕ → List ℕ → (is_twice : Bool) → (statement : List ℕ) → Result (Option Code) AsmKind
line_code_of places here line is_twice statement =
    if not (list_all is_printable line) then Err Byte
    else (if is_twice then Err Twice
    else statement_code places here statement)

-- the same, where the labels are those of the whole text, and those of the lines before
abbrev pub line_code : Places → Places → ℕ → List ℕ → Result (Option Code) AsmKind
line_code places before here line = line_code_of places here line (redefines here before (names line)) (statement line)

-- what a function returned is a word of what a line stands for, or its fault
abbrev pub GivesLine : Result (Option ℕ) AsmKind → Result (Option Code) AsmKind → Type 0
GivesLine (Ok None) read = read ≡ Ok None
GivesLine (Ok (Some word)) read = (code : Code) × (read ≡ Ok (Some code)) × Stands word code
GivesLine (Err kind) read = read ≡ Err kind

-- the first line of a text that isn't empty, and the text after it
unfoldable pub first_line : List ℕ → List ℕ
first_line text =
    if nat_lt (position_or_len (λ b. b == 10) text) (length text) then strip_carriage_return (before_first (λ b. b == 10) text)
    else text

unfoldable pub rest_of_lines : List ℕ → List ℕ
rest_of_lines text = after_first (λ b. b == 10) text
