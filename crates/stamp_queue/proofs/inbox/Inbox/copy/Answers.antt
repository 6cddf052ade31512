use Rattle.std.proofs.Common.{subst}
use Rattle.stamp_queue.specs.Inbox.{IsInOrder}
use Rattle.stamp_queue.proofs.Wholes.{whole_order}
use Rattle.stamp_queue.proofs.inbox.Inbox.copy.Goals as goal

pub returns-in_err-copy-clause-in_order : goal.returns-in_err-copy-clause-in_order
returns-in_err-copy-clause-in_order c = subst IsInOrder c.self.view_is (whole_order _ _ _ _ c.self.invariant)

pub returns-in_err-copy-2-clause-in_order : goal.returns-in_err-copy-2-clause-in_order
returns-in_err-copy-2-clause-in_order c = subst IsInOrder c.self.view_is (whole_order _ _ _ _ c.self.invariant)

pub returns-clause-in_order : goal.returns-clause-in_order
returns-clause-in_order c = subst IsInOrder c.self.view_is (whole_order _ _ _ _ c.self.invariant)
