use Rattle.std.proofs.Common.{arith}
use Rattle.slot_calendar.proofs.Changes.{lower_more, lower_done}
use Rattle.slot_calendar.proofs.inserting.lower.Goals as goal

pub loop-count-preserved : goal.loop-count-preserved
loop-count-preserved c = (
  omega (arith, c.loop-count.invariant.0),
  lower_more c.args.grant c.loop-count.entries c.args.entries.now c.loop-count.count c.args.place _ c.loop-count.invariant.1 c.loop-count-test.true c.loop-count.invariant.0 c.requires.place c.if-entries-count.true,
)

pub returns-else-entries-count : goal.returns-else-entries-count
returns-else-entries-count c =
    lower_done c.args.grant c.loop-count.entries c.args.entries.now c.loop-count.count c.args.place _ c.loop-count.invariant.1 c.loop-count-test.true c.loop-count.invariant.0 c.requires.place c.requires.climbing c.if-entries-count.false
