-- The rule of the clock table, over its words and over what each seat knows. Word 0 is global time, word 1 + c the clock
-- of core c. Seat 0 is the overseer's, seat 1 + c the pacer's of core c.
use Rattle.std.specs.Prelude.{◌≡◌, ℕ, ◌+◌, ◌<◌, ◌≤◌, ◌≢◌, true, false, List, [], length, slice_index, replicate}
use mathlib.Core.Option.{some}
use lib.ListN.{get_elem?}
use Rattle.atomic_table.specs.Seated.{TableId}
use Rattle.atomic_table.specs.Table.{State, Me}
use Rattle.core_gate.specs.declared.views.View.{View}
use Rattle.core_gate.specs.declared.views.Opening.{Opening}

abbrev pub global_time : List ℕ → ℕ
global_time words = slice_index words 0

abbrev pub clock_at : List ℕ → ℕ → ℕ
clock_at words core = slice_index words (1 + core)

-- global time is at most every clock, and every clock at most global time plus the slack
abbrev pub InStep : ℕ → ℕ → List ℕ → Type 0
InStep cores slack words = (c : ℕ) → c < cores → (global_time words ≤ clock_at words c) × (clock_at words c ≤ global_time words + slack)

-- the overseer's view, where there are so many seats: it knows global time, which isn't below the opening clock, and of
-- each clock a number that it isn't below. The cores that have no pacer yet are at the opening clock
pub record FitsOverseer (k : Opening) (words : List ℕ) (count : ℕ) (m : View) : Type 0 where
  pub oversees : m.oversees ≡ true
  pub slack : m.slack ≡ k.slack
  pub opening : m.clock ≡ k.clock
  pub begun : k.clock ≤ global_time words
  pub global : m.seen ≡ global_time words
  pub lows : length m.low ≡ k.cores
  pub low : (c : ℕ) → c < k.cores → slice_index m.low c ≤ clock_at words c
  pub next : 1 + m.next ≡ count
  pub room : m.next ≤ k.cores
  pub fresh : (c : ℕ) → m.next ≤ c → c < k.cores → clock_at words c ≡ k.clock

-- the view of a pacer at the seat of this number: it knows its core's clock, and a number that global time has reached
pub record FitsPacer (k : Opening) (words : List ℕ) (id : ℕ) (v : View) : Type 0 where
  pub follows : v.oversees ≡ false
  pub seat : id ≡ 1 + v.number
  pub number : v.number < k.cores
  pub slack : v.slack ≡ k.slack
  pub clock : v.clock ≡ clock_at words v.number
  pub seen : v.seen ≤ global_time words

-- the first seat is the overseer's, and every other a pacer's
abbrev pub FitsSeat : Opening → List ℕ → ℕ → ℕ → View → Type 0
FitsSeat k words count id v = (id ≡ 0 → FitsOverseer k words count v) × (id ≢ 0 → FitsPacer k words id v)

-- the rule: all clocks are in step, and each seat's view fits the words
pub record Paced (k : Opening) (s : State ℕ View) : Type 0 where
  pub count : length s.words ≡ 1 + k.cores
  pub in_step : InStep k.cores k.slack s.words
  pub overseen : 0 < length s.views
  pub seats : (id : ℕ) (v : View) → get_elem? s.views id ≡ some v → FitsSeat k s.words (length s.views) id v

-- the overseer's view at the start
abbrev pub opening_view : Opening → View
opening_view k = record { oversees = true; number = 0; clock = k.clock; seen = k.clock; slack = k.slack; next = 0; low = replicate k.cores k.clock }

-- the overseer's view once so many cores have their pacers
abbrev pub hosting : Opening → ℕ → View
hosting k n = record (opening_view k) { next = n }

-- a table of one word for global time and one for each core, with no place for anything else
abbrev pub HasClockWords : TableId → Opening → Type 0
HasClockWords table k = (table.words ≡ 1 + k.cores) × (table.slots ≡ 0)

-- what the overseer's seat knows once so many cores have their pacers
abbrev pub IsHosting : Opening → ℕ → Me ℕ View → Type 0
IsHosting k n me = me ≡ (hosting k n, [])
