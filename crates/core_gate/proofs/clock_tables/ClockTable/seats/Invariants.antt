use Rattle.std.proofs.Common.{◌≡◌, ℕ, [], length, Some, slice_get}
use Rattle.std.specs.Arc.{arc_value}
use Rattle.core_gate.specs.Pacing.{hosting}
use Rattle.core_gate.specs.Seats.{HasGivenSeats, IsOpeningPacer, table_of}
use Rattle.core_gate.specs.declared.pacers.Pacer.{Pacer}
use Rattle.core_gate.proofs.clock_tables.ClockTable.seats.Given as goal

abbrev pub invariant-loop-number : goal.invariant-loop-number
invariant-loop-number l = record {
  table : (l.self.words ≡ l.fn.self.words) × (l.self.cores ≡ l.fn.self.cores) × (l.self.clock ≡ l.fn.self.clock) × (l.self.slack ≡ l.fn.self.slack);
  seat : (l.seat.table_id ≡ table_of l.self) × (l.seat.me ≡ (hosting (arc_value l.self.words).shared.key l.number, []));
  given : HasGivenSeats l.self;
  count : length l.pacers ≡ l.number;
  pacers : (i : ℕ) (p : Pacer) → slice_get l.pacers i ≡ Some p → IsOpeningPacer (table_of l.self) i l.self.clock l.self.slack p;
}
