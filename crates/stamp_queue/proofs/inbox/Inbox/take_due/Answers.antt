use Rattle.std.proofs.Common.{◌∷◌, ◌<◌, arith, refl, subst}
use Rattle.std.specs.List.{AllByRecursion}
use Rattle.stamp_queue.specs.Inbox.{IsInOrder}
use Rattle.stamp_queue.specs.Merged.{with_posts}
use Rattle.stamp_queue.proofs.Wholes.{none_due_yet, taken_whole, taken_some, whole_order}
use Rattle.stamp_queue.proofs.inbox.Inbox.take_due.Goals as goal

-- no post is due before the first is
pub returns-then-cycle-self-clause-none : goal.returns-then-cycle-self-clause-none
returns-then-cycle-self-clause-none c =
    ((λ _. subst (AllByRecursion (λ p. c.args.cycle < p.due)) c.self.view_is (none_due_yet _ _ _ _ c.args.cycle c.self.invariant c.if-cycle-self.true)), λ _. refl)

pub returns-then-cycle-self-clause-in_order : goal.returns-then-cycle-self-clause-in_order
returns-then-cycle-self-clause-in_order c = subst IsInOrder c.self.view_is (whole_order _ _ _ _ c.self.invariant)

-- the first is taken
pub invariant_of-self-2 : goal.invariant_of-self-2
invariant_of-self-2 c =
    let some = taken_some _ _ _ _ _ _ _ c.self.invariant c.in_ok-post.ensures in
    taken_whole _ _ _ _ _ _ _ _ _ c.self.invariant c.in_ok-post.ensures (omega (arith, c.first.ensures, c.first.type_inv)) (omega (arith, c.first-2.ensures, c.first-2.type_inv))
    (omega (arith, c.first.ensures, c.first-2.ensures, c.min-self-inside.ensures)) (omega (arith, some))

pub returns-clause-least : goal.returns-clause-least
returns-clause-least c =
    let order : IsInOrder (c.in_ok-post.post ∷ with_posts c.take_first.new.off_wheel c.take_first.new.wheel) = subst IsInOrder c.in_ok-post.ensures.list (whole_order _ _ _ _ c.self.invariant) in
    order.0

pub returns-clause-in_order : goal.returns-clause-in_order
returns-clause-in_order c =
    let order : IsInOrder (c.in_ok-post.post ∷ with_posts c.take_first.new.off_wheel c.take_first.new.wheel) = subst IsInOrder c.in_ok-post.ensures.list (whole_order _ _ _ _ c.self.invariant) in
    order.1
