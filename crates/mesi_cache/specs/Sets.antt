-- The operations on one set of a cache: a list of lines, the most recently used first.
use Rattle.std.specs.Prelude.{ℕ, Bool, List, ◌∷◌, ◌++◌, Option, ◌==◌, filter, find, map, take, slice_get, not, if◌then◌else◌}
use Rattle.mesi_cache.specs.declared.lines.CacheLine.{CacheLine}
use Rattle.mesi_cache.specs.Lines.{shared}

-- the line has this number
abbrev pub is_line : ℕ → CacheLine → Bool
is_line line l = l.line == line

-- the line of this number, if the set holds it
abbrev pub find_line : ℕ → List CacheLine → Option CacheLine
find_line line set = find (is_line line) set

-- the lines of other numbers, in their order
abbrev pub others : ℕ → List CacheLine → List CacheLine
others line set = filter (λ l. not (is_line line l)) set

-- a line that is used goes to the front, with this change
abbrev pub to_front : (CacheLine → CacheLine) → ℕ → List CacheLine → List CacheLine
to_front change line set = map change (filter (is_line line) set) ++ others line set

-- a fill puts its line at the front of the others: the set keeps as many lines as it has ways
abbrev pub fill_set : ℕ → CacheLine → List CacheLine → List CacheLine
fill_set ways new set = take ways (new ∷ others new.line set)

-- the line that falls out: the last one where the set was full of other lines, none where there was room or the
-- filled line was held
abbrev pub fallen : ℕ → CacheLine → List CacheLine → Option CacheLine
fallen ways new set = slice_get (new ∷ others new.line set) ways

-- a snoop: another core takes the line, which then leaves, or reads it, which makes it Shared in its place
abbrev pub snoop_set : ℕ → Bool → List CacheLine → List CacheLine
snoop_set line own set = if own then others line set else map (λ l. if is_line line l then shared l else l) set
