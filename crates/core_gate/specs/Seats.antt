-- What a contract sees of the seats at a clock table.
use Rattle.std.specs.Prelude.{◌≡◌, ℕ, ◌+◌, ◌≤◌, List, length, replicate, slice_get, IsSome, IsNone, Some}
use Rattle.std.specs.Arc.{arc_value}
use Rattle.atomic_table.specs.Seated.{TableId}
use Rattle.core_gate.specs.declared.pacers.Pacer.{Pacer}
use Rattle.core_gate.specs.declared.overseers.Overseer.{Overseer}
use Rattle.core_gate.specs.declared.clock_tables.ClockTable.{ClockTable}

-- the table itself, which no other table is
abbrev pub table_of : ClockTable → TableId
table_of t = (arc_value t.words).shared.table_id

-- no seat was given yet
abbrev pub HasSeats : ClockTable → Type 0
HasSeats t = IsSome t.seat

-- its seats were given
abbrev pub HasGivenSeats : ClockTable → Type 0
HasGivenSeats t = IsNone t.seat

-- of so many cores, all at this clock, with this slack
abbrev pub IsOf : ℕ → ℕ → ℕ → ClockTable → Type 0
IsOf cores clock slack t = (t.cores ≡ cores) × (t.clock ≡ clock) × (t.slack ≡ slack)

-- the same table, earlier and later
abbrev pub SameTable : ClockTable → ClockTable → Type 0
SameTable a b = (table_of b ≡ table_of a) × IsOf a.cores a.clock a.slack b

-- the same core's pacer at the same table, earlier and later
abbrev pub SamePacer : Pacer → Pacer → Type 0
SamePacer a b = (b.seat.table_id ≡ a.seat.table_id) × (b.number ≡ a.number) × (b.slack ≡ a.slack)

-- how many cores an overseer looks at, and by how much one of them may be ahead
abbrev pub cores_of : Overseer → ℕ
cores_of o = length o.lows.items

abbrev pub slack_of : Overseer → ℕ
slack_of o = o.seat.me.0.slack

-- a clock that is in step with the global time of the overseer
abbrev pub IsInStep : Overseer → ℕ → Type 0
IsInStep o clock = (o.global ≤ clock) × (clock ≤ o.global + slack_of o)

-- the overseer of the same table, earlier and later
abbrev pub SameOverseer : Overseer → Overseer → Type 0
SameOverseer a b = (b.seat.table_id ≡ a.seat.table_id) × (cores_of b ≡ cores_of a) × (slack_of b ≡ slack_of a)

-- the pacer of a core as the table began
abbrev pub IsOpeningPacer : TableId → ℕ → ℕ → ℕ → Pacer → Type 0
IsOpeningPacer table core clock slack p = (p.seat.table_id ≡ table) × (p.number ≡ core) × (p.clock ≡ clock) × (p.seen ≡ clock) × (p.slack ≡ slack)

-- one pacer for each core, in the order of cores, as the table began
abbrev pub AreOpeningPacers : ClockTable → List Pacer → Type 0
AreOpeningPacers t pacers = (length pacers ≡ t.cores) × ((i : ℕ) (p : Pacer) → slice_get pacers i ≡ Some p → IsOpeningPacer (table_of t) i t.clock t.slack p)

-- the overseer as the table began
abbrev pub IsOpeningOverseer : ClockTable → Overseer → Type 0
IsOpeningOverseer t o = (o.seat.table_id ≡ table_of t) × (slack_of o ≡ t.slack) × (o.global ≡ t.clock) × (o.lows.items ≡ replicate t.cores t.clock)
