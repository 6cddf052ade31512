use Rattle.std.proofs.Common.{◌∙◌, ap, sym}
use Rattle.stamp_queue.specs.Inbox.{next_due}
use Rattle.stamp_queue.proofs.Wheels.{next_slot_first, none_left, none_marked_first}
use Rattle.stamp_queue.proofs.inbox.wheel.first_from.Goals as goal

pub returns-then-most-eq1 : goal.returns-then-most-eq1
returns-then-most-eq1 c = none_left _ c.args.most c.requires.2 c.if-most-eq1.true

pub returns-in-Some : goal.returns-in-Some
returns-in-Some c = c.due_of.ensures ∙ next_slot_first c.args.occupied.now c.args.slots.now c.args.due _ _ c.requires.0 c.requires.1 c.slot_of.ensures c.in-Some.ensures

pub returns-in-None : goal.returns-in-None
returns-in-None c = ap next_due (sym (none_marked_first c.args.occupied.now c.args.slots.now c.requires.1 c.in-None.ensures))
