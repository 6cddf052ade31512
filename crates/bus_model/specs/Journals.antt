-- What the entries of a bus's lines were before they changed.
use Rattle.std.specs.Prelude.{ℕ, ◌+◌, ◌≡◌, ◌<◌, ◌≤◌, ◌==◌, ◌||◌, Bool, true, false, List, [], ◌∷◌, All, length, get_or, slice_set}
use Rattle.status_map.specs.declared.views.EntryView.{EntryView}
use Rattle.bus_model.specs.declared.lines.Note.{Note}

-- the entries of a bus's lines, and the entries that lines had, in the order in which they were noted
pub record LinesValue : Type 0 where
  pub entries : List EntryView
  pub journal : List Note

-- the entries with those of a journal put back, the latest first: what is left of a line is the oldest that was noted
abbrev pub restored : List EntryView → List Note → List EntryView
restored entries [] = entries
restored entries (note ∷ journal) = slice_set (restored entries journal) note.place note.entry

-- whether the line of a place stands in a journal
abbrev pub is_noted : ℕ → List Note → Bool
is_noted place [] = false
is_noted place (note ∷ journal) = (note.place == place) || is_noted place journal

-- how many flags are up
abbrev pub count_up : List Bool → ℕ
count_up [] = 0
count_up (true ∷ flags) = count_up flags + 1
count_up (false ∷ flags) = count_up flags

-- each line has a flag, which is up only where the line stands in the journal; the journal has no line that isn't one
-- of the bus, and is no longer than flags are up
pub record IsFlagged (flags : List Bool) (entries : List EntryView) (journal : List Note) : Type 0 where
  pub each : length flags ≡ length entries
  pub up : (place : ℕ) → get_or flags place false ≡ true → is_noted place journal ≡ true
  pub inside : All (λ note. note.place < length entries) journal
  pub few : length journal ≤ count_up flags

-- the line of a place may change: the entries are as before, the journal leads back to where it led, with one note more
-- at most, and the line stands in it where there is a mark; where there is none, nothing was noted
pub record IsReady (place : ℕ) (marked : Bool) (before after : LinesValue) : Type 0 where
  pub entries : after.entries ≡ before.entries
  pub kept : restored after.entries after.journal ≡ restored before.entries before.journal
  pub noted : marked ≡ true → is_noted place after.journal ≡ true
  pub few : length after.journal ≤ length before.journal + 1
  pub unmarked : marked ≡ false → after.journal ≡ before.journal
