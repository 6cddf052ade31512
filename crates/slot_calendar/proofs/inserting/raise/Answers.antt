use Rattle.std.proofs.Common.{◌<◌, length, arith}
use Rattle.slot_calendar.proofs.Changes.{raise_more, raise_done}
use Rattle.slot_calendar.proofs.inserting.raise.Goals as goal

pub loop-next-preserved : goal.loop-next-preserved
loop-next-preserved c =
    let within : c.loop-next.next < length c.args.entries.now = omega arith in (
      omega (arith, c.loop-next.invariant.0),
      omega (arith, within),
      raise_more c.args.grant c.loop-next.entries c.args.entries.now c.args.place c.loop-next.next _ c.loop-next.invariant.2 c.loop-next.invariant.0 within c.if-entries-next.true,
    )

pub returns-else-entries-next : goal.returns-else-entries-next
returns-else-entries-next c =
    let within : c.loop-next.next < length c.args.entries.now = omega arith in
    raise_done c.args.grant c.loop-next.entries c.args.entries.now c.args.place c.loop-next.next _ c.loop-next.invariant.2 c.loop-next.invariant.0 within c.requires.climbing c.if-entries-next.false
