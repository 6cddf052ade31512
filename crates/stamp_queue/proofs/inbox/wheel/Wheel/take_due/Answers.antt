use Rattle.std.proofs.Common.{◌<◌, ◌∙◌, ap, arith, length, sym, subst, refl}
use Rattle.std.specs.List.{AllByRecursion}
use Rattle.std.proofs.lemmas.Bool.{false≢true}
use Rattle.stamp_queue.specs.Wheel.{wheel_posts}
use Rattle.stamp_queue.proofs.Wheels.{take_wheel, none_taken, none_due}
use Rattle.stamp_queue.proofs.inbox.wheel.Wheel.take_due.Goals as goal

pub returns-then-cycle-self-clause-none : goal.returns-then-cycle-self-clause-none
returns-then-cycle-self-clause-none c =
    (subst (AllByRecursion (λ p. c.args.cycle < p.due)) c.self.view_is (none_due _ _ _ _ _ c.self.invariant c.if-cycle-self.true), refl)

pub returns-in_err-post-clause-none : goal.returns-in_err-post-clause-none
returns-in_err-post-clause-none c =
    let none = none_taken _ _ _ _ _ c.self.invariant c.slot_of-slot.ensures c.in_err-post.ensures.0 in
    rw c.from_residual.ensures
    (subst (AllByRecursion (λ p. c.args.cycle < p.due)) (sym none ∙ c.self.view_is) tt, ap wheel_posts c.in_err-post.ensures.1 ∙ c.self.view_is)

pub first_from-self-inside-requires : goal.first_from-self-inside-requires
first_from-self-inside-requires c =
    let taken = take_wheel _ _ _ _ _ _ _ c.self.invariant c.slot_of-slot.ensures c.in_ok-post.ensures in
    let size = ap length (sym c.self.view_is ∙ taken.posts) in
    (taken.held _ taken.above (omega arith), taken.emptied _ (c.is_empty.ensures.0 c.if-is_empty.true) c.remove.ensures.here c.remove.ensures.others, omega (arith, size, c.requires))

pub invariant_of-self-then-is_empty : goal.invariant_of-self-then-is_empty
invariant_of-self-then-is_empty c =
    let taken = take_wheel _ _ _ _ _ _ _ c.self.invariant c.slot_of-slot.ensures c.in_ok-post.ensures in
    record {
      held = taken.held _ (omega arith) taken.above;
      marked = taken.emptied _ (c.is_empty.ensures.0 c.if-is_empty.true) c.remove.ensures.here c.remove.ensures.others;
      least = c.first_from-self-inside.ensures;
    }

pub invariant_of-self-else-is_empty : goal.invariant_of-self-else-is_empty
invariant_of-self-else-is_empty c =
    let taken = take_wheel _ _ _ _ _ _ _ c.self.invariant c.slot_of-slot.ensures c.in_ok-post.ensures in
    taken.same (λ none. false≢true (sym c.if-is_empty.false ∙ c.is_empty.ensures.1 none))

pub returns-then-is_empty-clause-first : goal.returns-then-is_empty-clause-first
returns-then-is_empty-clause-first c =
    let taken = take_wheel _ _ _ _ _ _ _ c.self.invariant c.slot_of-slot.ensures c.in_ok-post.ensures in
    (omega (arith, taken.due, c.if-cycle-self.false), sym c.self.view_is ∙ taken.posts)

pub returns-else-is_empty-clause-first : goal.returns-else-is_empty-clause-first
returns-else-is_empty-clause-first c =
    let taken = take_wheel _ _ _ _ _ _ _ c.self.invariant c.slot_of-slot.ensures c.in_ok-post.ensures in
    (omega (arith, taken.due, c.if-cycle-self.false), sym c.self.view_is ∙ taken.posts)
