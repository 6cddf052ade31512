-- The five kinds of step on the clock table: what each makes of the table, and what it tells the seat that makes it.
use Rattle.std.specs.Prelude.{◌≡◌, ℕ, ◌+◌, ◌-◌, ◌≤◌, false, List, [], ◌∷◌, ◌++◌, slice_index, slice_set, All, Contains}
use Rattle.atomic_table.specs.Table.{State, Me, Step}
use Rattle.core_gate.specs.declared.views.View.{View}

-- the number is the least of these
abbrev pub IsLeast : ℕ → List ℕ → Type 0
IsLeast n xs = All (λ x. n ≤ x) xs × Contains xs n

-- the table where one seat has another view, as a load leaves it
abbrev pub viewed : State ℕ View → ℕ → View → State ℕ View
viewed s id v = record { words = s.words; homes = s.homes; views = slice_set s.views id v }

-- the table where one word is another number too, as a store leaves it
abbrev pub stored : State ℕ View → ℕ → ℕ → ℕ → View → State ℕ View
stored s word n id v = record { words = slice_set s.words word n; homes = s.homes; views = slice_set s.views id v }

-- a pacer's view where it has found this global time, and where its clock is this
abbrev pub observed : View → ℕ → View
observed v n = record v { seen = n }

abbrev pub advanced : View → ℕ → View
advanced v n = record v { clock = n }

-- the overseer's view where it has found this clock of the core, and where global time is this
abbrev pub looked : View → ℕ → ℕ → View
looked m core n = record m { low = slice_set m.low core n }

abbrev pub raised : View → ℕ → View
raised m n = record m { seen = n }

-- the overseer's view once the next pacer's is split off it, and that pacer's
abbrev pub host : View → View
host m = record m { next = m.next + 1 }

abbrev pub guest : View → View
guest m = record { oversees = false; number = m.next; clock = m.clock; seen = m.clock; slack = m.slack; next = 0; low = [] }

-- the table once the next pacer is seated
abbrev pub seated : State ℕ View → ℕ → View → State ℕ View
seated s id m = record { words = s.words; homes = s.homes; views = slice_set s.views id (host m) ++ guest m ∷ [] }

-- a pacer's load of global time tells that it isn't below what was seen, nor above the core's own clock
abbrev pub Observes : Step ℕ → Me ℕ View → ℕ → Me ℕ View → Type 0
Observes s v found w = (w ≡ (observed v.0 found, v.1)) × (v.0.seen ≤ found) × (found ≤ v.0.clock)

-- a pacer's store of its clock
abbrev pub Advances : Step ℕ → Me ℕ View → ℕ → Me ℕ View → Type 0
Advances s v found w = w ≡ (advanced v.0 found, v.1)

-- the overseer's load of a clock tells that it isn't below the one last looked at, and is in step with global time
abbrev pub Looks : Step ℕ → Me ℕ View → ℕ → Me ℕ View → Type 0
Looks s v found w = (w ≡ (looked v.0 (s.word - 1) found, v.1)) × (slice_index v.0.low (s.word - 1) ≤ found) × (v.0.seen ≤ found) × (found ≤ v.0.seen + v.0.slack)

-- the overseer's store of global time
abbrev pub Raises : Step ℕ → Me ℕ View → ℕ → Me ℕ View → Type 0
Raises s v found w = w ≡ (raised v.0 found, v.1)
