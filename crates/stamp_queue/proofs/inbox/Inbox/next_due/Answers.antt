use Rattle.std.proofs.Common.{◌≤◌, subst}
use Rattle.std.specs.List.{AllByRecursion}
use Rattle.stamp_queue.specs.Inbox.{IsInOrder}
use Rattle.stamp_queue.proofs.Wholes.{whole_first, whole_order}
use Rattle.stamp_queue.proofs.inbox.Inbox.next_due.Goals as goal

-- no post is due before the first
pub returns-clause-before : goal.returns-clause-before
returns-clause-before c = subst (AllByRecursion (λ p. c.self.inside.first ≤ p.due)) c.self.view_is (whole_first _ _ _ _ c.self.invariant)

pub returns-clause-in_order : goal.returns-clause-in_order
returns-clause-in_order c = subst IsInOrder c.self.view_is (whole_order _ _ _ _ c.self.invariant)
