-- How many ticks the cores of a run made, by its notes.
use Rattle.std.specs.Prelude.{ℕ, ◌*◌, List, sum_by}
use Rattle.slack_base.specs.declared.notes.Interval.{Interval}
use Rattle.slack_base.specs.declared.notes.Interval.TheVariants.{Kept, Rolled, Bounded}

-- the cycles of the interval
unfoldable pub cycles_of : Interval → ℕ
cycles_of (Kept cycles) = cycles
cycles_of (Rolled cycles drift seen) = cycles
cycles_of (Bounded cycles drift seen) = cycles

-- those that were simulated a second time
unfoldable pub replayed_of : Interval → ℕ
replayed_of (Kept cycles) = 0
replayed_of (Rolled cycles drift seen) = cycles
replayed_of (Bounded cycles drift seen) = 0

-- the ticks of all cores in drifts
abbrev pub drift_ticks_of : (cores : ℕ) → List Interval → ℕ
drift_ticks_of cores notes = cores * sum_by cycles_of notes

-- the ticks of all cores in replays
abbrev pub replay_ticks_of : (cores : ℕ) → List Interval → ℕ
replay_ticks_of cores notes = cores * sum_by replayed_of notes
