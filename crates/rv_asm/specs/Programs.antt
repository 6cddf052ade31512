-- The program of a text.
use Rattle.std.specs.Prelude.{◌≡◌, ℕ, ◌+◌, ◌^◌, ◌<◌, List, [], ◌∷◌, ◌++◌, Option, Some, None, Result, Ok, Err, length, nat_le, if◌then◌else◌}
use Rattle.std.specs.Int.{to_le_bytes, w32}
use Rattle.std.specs.Str.Lines.{lines}
use Rattle.slack_base.specs.declared.faults.AsmKind.{AsmKind}
use Rattle.slack_base.specs.declared.faults.AsmKind.TheVariants.{TooLong}
use Rattle.slack_base.specs.declared.faults.AsmFault.{AsmFault}
use Rattle.slack_base.specs.Images.{one_piece}
use Rattle.slack_base.specs.declared.images.Image.{Image}
use Rattle.rv_asm.specs.declared.assembling.AsmError.{AsmError}
use Rattle.rv_asm.specs.declared.assembling.AsmError.TheVariants as errors
use Rattle.rv_asm.specs.Instructions.{Code, Stands}
use Rattle.rv_asm.specs.Labels.{no_places, with_labels}
use Rattle.rv_asm.specs.Lines.{names, places_from, place_after, line_code}
use Rattle.rv_asm.specs.Operands.{Places}

-- how many words a program has at most
abbrev pub most_words : ℕ
most_words = 262144

-- the codes with others before them
abbrev pub with_front : List Code → Result (List Code) AsmFault → Result (List Code) AsmFault
with_front front (Ok codes) = Ok (front ++ codes)
with_front front (Err fault) = Err fault

-- the code of a line, behind so many words, and the codes of the lines after it
abbrev pub before_codes : ℕ → ℕ → Option Code → Result (List Code) AsmFault → Result (List Code) AsmFault
before_codes number here None others = others
before_codes number here (Some code) others =
    if nat_le most_words here then Err (record { line = number; kind = TooLong }) else with_front (code ∷ []) others

-- the codes of the lines from a line's number and a place on, or the first fault
abbrev pub after_line : ℕ → ℕ → Result (Option Code) AsmKind → Result (List Code) AsmFault → Result (List Code) AsmFault
after_line number here (Err kind) others = Err (record { line = number; kind = kind })
after_line number here (Ok code) others = before_codes number here code others

unfoldable pub codes_from : Places → Places → ℕ → ℕ → List (List ℕ) → Result (List Code) AsmFault
codes_from places before number here [] = Ok []
codes_from places before number here (line ∷ lines) =
    after_line number here (line_code places before here line)
    (codes_from places (with_labels here before (names line)) (number + 1) (place_after here line) lines)

-- the places of the labels of a text
abbrev pub places_of : List ℕ → Places
places_of text = places_from no_places 0 (lines text)

-- the program that a text says, or its first fault
abbrev pub program_of : List ℕ → Result (List Code) AsmFault
program_of text = codes_from (places_of text) no_places 1 0 (lines text)

-- the bytes are words, least byte first, that stand for the codes one after another
abbrev pub AreWordsOf : List Code → List ℕ → Type 0
AreWordsOf [] bytes = bytes ≡ []
AreWordsOf (code ∷ codes) bytes =
    (word : ℕ) × (rest : List ℕ) × (word < 2 ^ 32) × Stands word code × (bytes ≡ to_le_bytes w32 word ++ rest) × AreWordsOf codes rest

-- the same of what a function returned, or the first fault; want of memory may come in place of either
abbrev pub GivesBytes : {V : Type 0} → (V → List ℕ) → Result V AsmError → Result (List Code) AsmFault → Type 0
GivesBytes items (Ok bytes) read = (codes : List Code) × (read ≡ Ok codes) × AreWordsOf codes (items bytes)
GivesBytes items (Err (errors.Fault fault)) read = read ≡ Err fault
GivesBytes items (Err errors.OutOfMemory) read = Unit {0}

-- a word is put at the end, if there is one, and the place after it is known
abbrev pub PushesWord : List ℕ → List ℕ → ℕ → Option ℕ → ℕ → Type 0
PushesWord old new here None after = (after ≡ here) × (new ≡ old)
PushesWord old new here (Some word) after =
    (here < most_words) × (after ≡ here + 1) × (new ≡ old ++ to_le_bytes w32 word) × (word < 2 ^ 32)

-- the image is that of the text
pub record IsAssembly (text : List ℕ) (base : ℕ) (image : Image) : Type 0 where
  pub codes : List Code
  pub bytes : List ℕ
  pub program : program_of text ≡ Ok codes
  pub words : AreWordsOf codes bytes
  pub whole : image ≡ one_piece base base bytes
