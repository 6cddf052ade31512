-- The operations on a cache: that on the set where a line belongs.
use Rattle.std.specs.Prelude.{ℕ, ◌%◌, ◌<◌, ◌≤◌, ◌≡◌, Bool, IsTrue, List, [], ◌∷◌, Option, length, replicate, slice_index_or, slice_set, filter, All}
use Rattle.slack_base.specs.Bounds.{is_among}
use Rattle.mesi_cache.specs.declared.lines.CacheLine.{CacheLine}
use Rattle.mesi_cache.specs.Lines.{written}
use Rattle.mesi_cache.specs.Sets.{is_line, find_line, to_front, fill_set, fallen, snoop_set}

-- a cache: how many lines a set holds at most, and the sets, each the most recently used line first
pub record CacheValue : Type 0 where
  pub ways : ℕ
  pub sets : List (List CacheLine)

abbrev pub empty_cache : ℕ → ℕ → CacheValue
empty_cache sets ways = record { ways = ways; sets = replicate sets [] }

-- line l belongs to set l mod the number of sets
abbrev pub set_number : CacheValue → ℕ → ℕ
set_number c line = line % length c.sets

abbrev pub set_of : CacheValue → ℕ → List CacheLine
set_of c line = slice_index_or c.sets (set_number c line) []

-- the line, if the cache holds it
abbrev pub line_in : CacheValue → ℕ → Option CacheLine
line_in c line = find_line line (set_of c line)

-- the cache with another set where the line belongs
abbrev pub with_set : CacheValue → ℕ → List CacheLine → CacheValue
with_set c line set = record c { sets = slice_set c.sets (set_number c line) set }

abbrev pub read_line : CacheValue → ℕ → CacheValue
read_line c line = with_set c line (to_front (λ l. l) line (set_of c line))

abbrev pub write_line : CacheValue → ℕ → ℕ → ℕ → CacheValue
write_line c line place value = with_set c line (to_front (written place value) line (set_of c line))

abbrev pub fill_line : CacheValue → CacheLine → CacheValue
fill_line c new = with_set c new.line (fill_set c.ways new (set_of c new.line))

abbrev pub victim_of : CacheValue → CacheLine → Option CacheLine
victim_of c new = fallen c.ways new (set_of c new.line)

abbrev pub snoop_line : CacheValue → ℕ → Bool → CacheValue
snoop_line c line own = with_set c line (snoop_set line own (set_of c line))

-- a cache of so many sets with so many ways
pub record HasShape (sets ways : ℕ) (c : CacheValue) : Type 0 where
  pub number_of_sets : length c.sets ≡ sets
  pub number_of_ways : c.ways ≡ ways

-- a set of a cache: no more lines than ways, no line twice, and each where it belongs
pub record IsSet (ways sets number : ℕ) (set : List CacheLine) : Type 0 where
  pub within : length set ≤ ways
  pub once : (line : ℕ) → length (filter (is_line line) set) ≤ 1
  pub placed : All (λ l. l.line % sets ≡ number) set

-- a cache: its number of sets, its ways, and each of its sets
pub record IsCache (c : CacheValue) : Type 0 where
  pub sets : IsTrue (is_among (length c.sets) (1 ∷ 2 ∷ 4 ∷ 8 ∷ 16 ∷ 32 ∷ 64 ∷ []))
  pub ways : (1 ≤ c.ways) × (c.ways ≤ 8)
  pub each : (number : ℕ) → number < length c.sets → IsSet c.ways (length c.sets) number (slice_index_or c.sets number [])
