use Rattle.std.proofs.Common.{rules, ℕ, length-append}
use Rattle.core_gate.specs.Seats.{IsOpeningPacer, table_of}
use Rattle.core_gate.specs.declared.pacers.Pacer.{Pacer}
use Rattle.core_gate.proofs.Lists.{each_more}
use Rattle.core_gate.proofs.clock_tables.ClockTable.seats.Goals as goal

pub loop-number-preserved : goal.loop-number-preserved
loop-number-preserved c =
    let s = c.loop-number.self in
    let P : ℕ → Pacer → Type 0 = λ i p. IsOpeningPacer (table_of s) i s.clock s.slack p in
    record {
      table = search rules;
      seat = search rules;
      given = search rules;
      count = search (rules, length-append);
      pacers = λ i p e. each_more P c.loop-number.pacers c.in_ok-pacer.pacer c.loop-number.invariant.pacers (search rules) i p (search rules);
    }
