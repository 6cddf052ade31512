use Rattle.std.proofs.Common.{sym, ◌∙◌}
use Rattle.slot_calendar.proofs.Orders.{below_is, below_none}
use Rattle.slot_calendar.proofs.entries.count_below.Goals as goal

pub returns-else-not-is_above-clause-below : goal.returns-else-not-is_above-clause-below
returns-else-not-is_above-clause-below c =
    below_is c.args.id c.args.entries.now c.loop-count.count _ c.requires c.loop-count-test.true c.loop-count.invariant.0 (sym c.is_above.ensures ∙ c.if-not-is_above.false) c.loop-count.invariant.1

pub returns-after-loop-count-clause-below : goal.returns-after-loop-count-clause-below
returns-after-loop-count-clause-below c = below_none c.args.id c.args.entries.now c.loop-count.count c.loop-count-test.false c.loop-count.invariant.1
