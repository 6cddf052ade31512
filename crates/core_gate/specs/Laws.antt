-- Each kind of step keeps the rule, from any table that meets it.
use Rattle.std.specs.Prelude.{◌≡◌, ℕ, ◌+◌, ◌<◌, ◌≤◌, true, false, [], replicate}
use mathlib.Core.Option.{some}
use lib.ListN.{get_elem?}
use Rattle.atomic_table.specs.Table.{State, opening}
use Rattle.core_gate.specs.Pacing.{Paced, global_time, clock_at, opening_view}
use Rattle.core_gate.specs.Steps.{IsLeast, viewed, stored, observed, advanced, looked, raised, seated}
use Rattle.core_gate.specs.declared.views.View.{View}
use Rattle.core_gate.specs.declared.views.Opening.{Opening}

-- at a table that meets the rule, the overseer or a pacer has this view at the seat of this number
abbrev pub IsOverseerAt : Opening → State ℕ View → ℕ → View → Type 0
IsOverseerAt k s id v = Paced k s × (get_elem? s.views id ≡ some v) × (v.oversees ≡ true)

abbrev pub IsPacerAt : Opening → State ℕ View → ℕ → View → Type 0
IsPacerAt k s id v = Paced k s × (get_elem? s.views id ≡ some v) × (v.oversees ≡ false)

-- all words are the opening clock, and only the overseer has a seat
abbrev pub AllOpen : Type 0
AllOpen = (k : Opening) → Paced k (opening (replicate (1 + k.cores) k.clock) [] (opening_view k))

-- a pacer loads global time
abbrev pub AllObserve : Type 0
AllObserve = (k : Opening) (s : State ℕ View) (id : ℕ) (v : View) → IsPacerAt k s id v → Paced k (viewed s id (observed v (global_time s.words)))

-- a pacer stores its clock, one higher, from below what it has seen plus the slack
abbrev pub AllAdvance : Type 0
AllAdvance = (k : Opening) (s : State ℕ View) (id : ℕ) (v : View) → IsPacerAt k s id v → v.clock < v.seen + v.slack
    → Paced k (stored s (1 + v.number) (v.clock + 1) id (advanced v (v.clock + 1)))

-- the overseer loads the clock of a core
abbrev pub AllLook : Type 0
AllLook = (k : Opening) (s : State ℕ View) (id : ℕ) (v : View) (core : ℕ) → IsOverseerAt k s id v → core < k.cores
    → Paced k (viewed s id (looked v core (clock_at s.words core)))

-- the overseer stores the least of the clocks last looked at, from below it
abbrev pub AllRaise : Type 0
AllRaise = (k : Opening) (s : State ℕ View) (id : ℕ) (v : View) (least : ℕ) → IsOverseerAt k s id v → IsLeast least v.low → v.seen ≤ least
    → Paced k (stored s 0 least id (raised v least))

-- the next core's pacer gets its seat
abbrev pub AllSeat : Type 0
AllSeat = (k : Opening) (s : State ℕ View) (id : ℕ) (v : View) → IsOverseerAt k s id v → v.next < k.cores → Paced k (seated s id v)
