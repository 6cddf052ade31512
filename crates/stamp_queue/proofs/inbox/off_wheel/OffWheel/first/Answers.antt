use Rattle.std.proofs.Common.{◌∙◌, ap, sym}
use Rattle.stamp_queue.specs.Inbox.{next_due}
use Rattle.stamp_queue.proofs.ByDue.{first_entry_due}
use Rattle.stamp_queue.proofs.inbox.off_wheel.OffWheel.first.Goals as goal

pub returns-in-Some : goal.returns-in-Some
returns-in-Some c = sym (first_entry_due c.self.inside.posts.entries _ _ c.self.invariant c.in-Some.ensures.first) ∙ ap next_due c.self.view_is
