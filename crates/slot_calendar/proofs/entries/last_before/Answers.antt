use Rattle.std.proofs.Common.{arith}
use Rattle.slot_calendar.proofs.Points.{none_counted, last_counted}
use Rattle.slot_calendar.proofs.entries.last_before.Goals as goal

pub returns-then-count-eq0 : goal.returns-then-count-eq0
returns-then-count-eq0 c = none_counted c.args.limit c.args.entries.now c.count_before-count.result c.if-count-eq0.true c.requires.coming c.count_before-count.ensures.late

pub returns : goal.returns
returns c =
    last_counted c.args.limit c.args.entries.now c.count_before-count.result _ c.requires.order c.requires.coming (omega (arith, c.if-count-eq0.false)) c.count_before-count.ensures.within
    c.count_before-count.ensures.soon c.count_before-count.ensures.late
