-- What the sets of a cache held, and since when they were left alone, before they changed.
use Rattle.std.specs.Prelude.{ℕ, ◌≡◌, ◌<◌, ◌≤◌, ◌==◌, ◌||◌, ◌+◌, Bool, true, false, Option, Some, None, List, [], ◌∷◌, All, length, get_or, map, slice_set}
use Rattle.mesi_cache.specs.declared.lines.CacheLine.{CacheLine}
use Rattle.mesi_cache.specs.Caches.{CacheValue, IsSet, set_number}
use Rattle.timed_core.specs.declared.noted_sets.SetNote.{SetNote}
use Rattle.timed_core.specs.TouchedCaches.{TouchedCache}

-- a cache, a touch of each of its sets, what sets of it held, in the order in which they were noted, and how many notes
-- there is room for
pub record SetsValue : Type 0 where
  pub cache : CacheValue
  pub touches : List ℕ
  pub journal : List SetNote
  pub room : ℕ

-- the sets with those of a journal put back, the latest first: what is left of a set is the oldest that was noted
abbrev pub restored : List (List CacheLine) → List SetNote → List (List CacheLine)
restored sets [] = sets
restored sets (note ∷ journal) = slice_set (restored sets journal) note.set note.copy

-- the touches with those of a journal put back, the latest first
abbrev pub restored_touches : List ℕ → List SetNote → List ℕ
restored_touches touches [] = touches
restored_touches touches (note ∷ journal) = slice_set (restored_touches touches journal) note.set note.touch

-- the cache with the sets of a journal put back
abbrev pub restored_cache : CacheValue → List SetNote → CacheValue
restored_cache c journal = record c { sets = restored c.sets journal }

-- whether the set of a number stands in a journal
abbrev pub is_noted : ℕ → List SetNote → Bool
is_noted set [] = false
is_noted set (note ∷ journal) = (note.set == set) || is_noted set journal

-- the numbers of the sets of a journal, in its order
abbrev pub sets_noted : List SetNote → List ℕ
sets_noted journal = map (λ note. note.set) journal

-- how many flags are up
abbrev pub count_up : List Bool → ℕ
count_up [] = 0
count_up (true ∷ flags) = count_up flags + 1
count_up (false ∷ flags) = count_up flags

-- a note is of one of so many sets, and of so many ways
abbrev pub IsNoteOf : (sets ways : ℕ) → SetNote → Type 0
IsNoteOf sets ways note = (note.set < sets) × IsSet ways sets note.set note.copy

-- each of so many sets has a flag, which is up only where the set stands in the journal; the journal has notes of these
-- sets alone, and is no longer than flags are up
pub record IsFlagged (flags : List Bool) (sets ways : ℕ) (journal : List SetNote) : Type 0 where
  pub each : length flags ≡ sets
  pub up : (set : ℕ) → get_or flags set false ≡ true → is_noted set journal ≡ true
  pub proper : All (IsNoteOf sets ways) journal
  pub few : length journal ≤ count_up flags

-- the set of a line and its touch may change: the cache and the touches are as before, and the journal leads back to where
-- it led; where there is a mark, there is a touch of each set, and the set stands in the journal; where there is none,
-- nothing was noted
pub record IsReadyFor (line : ℕ) (marked : Bool) (before after : SetsValue) : Type 0 where
  pub cache : after.cache ≡ before.cache
  pub touches : after.touches ≡ before.touches
  pub each : marked ≡ true → length before.touches ≡ length before.cache.sets
  pub kept : restored after.cache.sets after.journal ≡ restored before.cache.sets before.journal
  pub kept_touches : restored_touches after.touches after.journal ≡ restored_touches before.touches before.journal
  pub noted : marked ≡ true → is_noted (set_number before.cache line) after.journal ≡ true
  pub room : after.room ≡ before.room
  pub unmarked : marked ≡ false → after.journal ≡ before.journal
  pub one : length after.journal ≤ length before.journal + 1

-- where there is a mark, there is room for a note of each set; where there is none, nothing is noted
pub record HasRoom (marked : Bool) (s : SetsValue) : Type 0 where
  pub room : marked ≡ true → length s.cache.sets ≤ s.room
  pub unmarked : marked ≡ false → s.journal ≡ []

-- the cache and its touches at the mark, if there is one: those of now with what stands in the journal put back
abbrev pub cache_then : Bool → SetsValue → Option TouchedCache
cache_then true s = Some (record { cache = restored_cache s.cache s.journal; touches = restored_touches s.touches s.journal })
cache_then false s = None
