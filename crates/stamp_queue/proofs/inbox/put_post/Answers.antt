use Rattle.std.proofs.Common.{◌≡◌, ◌≢◌, OnOk, Ok, Err, Result, subst, sym}
use Rattle.std.specs.List.{AllByRecursion}
use Rattle.slack_base.specs.Inboxes.{with_post}
use Rattle.stamp_queue.specs.OffWheel.{NoneHasDue}
use Rattle.stamp_queue.specs.Whole.{IsPut}
use Rattle.stamp_queue.proofs.Wholes.{put_on, put_off, off_not_on}
use Rattle.stamp_queue.proofs.inbox.put_post.Goals as goal

weaker_ok : {T E : Type 0} (r : Result T E) (P Q : Type 0) → (P → Q) → OnOk r P → OnOk r Q
weaker_ok (Ok x) P Q f h = f h
weaker_ok (Err e) P Q f h = h

-- the due stands off the wheel already
pub returns-then-has-clause-ok : goal.returns-then-has-clause-ok
returns-then-has-clause-ok c =
    let on = c.args.wheel.now in
    let off = c.args.off_wheel.now in
    let has : NoneHasDue off c.args.post.now.due → ⊥ = rw c.if-has.true at c.has.ensures in
    weaker_ok c.put.result (c.put.new.self ≡ with_post off c.args.post.now) (IsPut on off on c.put.new.self c.args.post.now)
    (λ is. put_off on off c.put.new.self c.args.post.now c.requires (off_not_on on off c.args.post.now.due c.requires has) is) c.put.ensures.ok

-- the wheel has taken it
pub returns-then-branch-clause-ok : goal.returns-then-branch-clause-ok
returns-then-branch-clause-ok c =
    let on = c.args.wheel.now in
    let off = c.args.off_wheel.now in
    let none : NoneHasDue off c.args.post.now.due = rw c.if-has.false at c.has.ensures in
    put_on on off c.put-2.new.self c.args.post.now c.requires none (rw c.if-branch.true at c.in_ok-put.ensures.ok)

-- its due is none of the wheel's
pub returns-clause-ok : goal.returns-clause-ok
returns-clause-ok c =
    let on = c.args.wheel.now in
    let off = c.args.off_wheel.now in
    let same : c.put-2.new.self ≡ on = rw c.if-branch.false at c.in_ok-put.ensures.ok in
    let none : AllByRecursion (λ p. p.due ≢ c.args.post.now.due) on = rw c.if-branch.false at c.in_ok-put.ensures.outside in
    weaker_ok c.put-3.result (c.put-3.new.self ≡ with_post off c.args.post.now) (IsPut on off c.put-2.new.self c.put-3.new.self c.args.post.now)
    (λ is. subst (λ now. IsPut on off now c.put-3.new.self c.args.post.now) (sym same) (put_off on off c.put-3.new.self c.args.post.now c.requires none is)) c.put-3.ensures.ok
