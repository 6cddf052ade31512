-- The notes of a run: what became of each interval, and the ticks of it all.
use Rattle.std.specs.Prelude.{ℕ, Bool, true, false, List, ◌++◌, codes, length, filter, flat_map}
use Rattle.std.specs.List.{enumerate_from}
use Rattle.slack_base.specs.declared.stamps.Id.{Id}
use Rattle.slack_base.specs.declared.histories.Violation.{Violation}
use Rattle.slack_base.specs.declared.histories.Violation.TheVariants.{Bus, Map, Line, Reply}
use Rattle.slack_base.specs.declared.notes.Interval.{Interval}
use Rattle.slack_base.specs.declared.notes.Interval.TheVariants.{Kept, Rolled, Bounded}
use Rattle.plain_text.specs.Pieces.{field}

abbrev pub is_bus : Violation → Bool
is_bus (Bus channel high low) = true
is_bus (Map line high low) = false
is_bus (Line core id due clock) = false
is_bus (Reply core id due clock) = false

abbrev pub is_map : Violation → Bool
is_map (Bus channel high low) = false
is_map (Map line high low) = true
is_map (Line core id due clock) = false
is_map (Reply core id due clock) = false

abbrev pub is_line : Violation → Bool
is_line (Bus channel high low) = false
is_line (Map line high low) = false
is_line (Line core id due clock) = true
is_line (Reply core id due clock) = false

abbrev pub is_reply : Violation → Bool
is_reply (Bus channel high low) = false
is_reply (Map line high low) = false
is_reply (Line core id due clock) = false
is_reply (Reply core id due clock) = true

-- how many violations are of a kind
abbrev pub count_of : (Violation → Bool) → List Violation → ℕ
count_of of_kind seen = length (filter of_kind seen)

-- a name, and an id in its three parts
unfoldable pub id_field : List ℕ → Id → List ℕ
id_field name id = field name id.cycle ++ field (codes ".") id.core ++ field (codes ".") id.number

-- the ids of two asks that were served in the wrong order
unfoldable pub order_text : Id → Id → List ℕ
order_text high low = id_field (codes " high ") high ++ id_field (codes " low ") low ++ codes "\n"

-- what a core took late
unfoldable pub late_text : ℕ → Id → ℕ → ℕ → List ℕ
late_text core id due clock =
    field (codes " core ") core ++ id_field (codes " id ") id ++ field (codes " due ") due ++ field (codes " clock ") clock ++ codes "\n"

-- the line of a violation
unfoldable pub violation_line : Violation → List ℕ
violation_line (Bus channel high low) = field (codes "bus channel ") channel ++ order_text high low
violation_line (Map line high low) = field (codes "map line ") line ++ order_text high low
violation_line (Line core id due clock) = codes "line" ++ late_text core id due clock
violation_line (Reply core id due clock) = codes "reply" ++ late_text core id due clock

-- how many violations there are of each kind
unfoldable pub kinds_text : List Violation → List ℕ
kinds_text seen =
    field (codes " bus ") (count_of is_bus seen) ++ field (codes " map ") (count_of is_map seen)
    ++ field (codes " line ") (count_of is_line seen) ++ field (codes " reply ") (count_of is_reply seen) ++ codes "\n"

unfoldable pub violation_lines : List Violation → List ℕ
violation_lines seen = flat_map violation_line seen

-- the lines of an interval
unfoldable pub note_lines : ℕ → Interval → List ℕ
note_lines number (Kept cycles) = field (codes "interval ") number ++ field (codes " kept ") cycles ++ codes "\n"
note_lines number (Rolled cycles drift seen) = field (codes "interval ") number ++ field (codes " rolled ") cycles ++ kinds_text seen ++ violation_lines seen
note_lines number (Bounded cycles drift seen) = field (codes "interval ") number ++ field (codes " bounded ") cycles ++ kinds_text seen ++ violation_lines seen

-- the lines of intervals that are numbered from one on
unfoldable pub lines_from : ℕ → List Interval → List ℕ
lines_from first notes = flat_map (λ note. note_lines note.0 note.1) (enumerate_from first notes)

unfoldable pub ticks_line : ℕ → ℕ → List ℕ
ticks_line drift replay = field (codes "ticks drift ") drift ++ field (codes " replay ") replay ++ codes "\n"

-- the notes of a run, its intervals numbered from 0
unfoldable pub notes_of : List Interval → ℕ → ℕ → List ℕ
notes_of notes drift replay = lines_from 0 notes ++ ticks_line drift replay
