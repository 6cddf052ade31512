use Rattle.std.proofs.Common.{◌∙◌, ◌<◌, ◌^◌, ap, refl, rules, subst, sym}
use Rattle.slack_base.specs.Inboxes.{with_post}
use Rattle.stamp_queue.specs.Inbox.{IsInOrder, IsPutBetween}
use Rattle.stamp_queue.specs.Merged.{with_posts}
use Rattle.stamp_queue.proofs.Places.{put_between, in_order-with_post}
use Rattle.stamp_queue.proofs.Wholes.{put_whole, whole_order}
use Rattle.stamp_queue.proofs.inbox.Inbox.put.Goals as goal

-- there was no room for one more
pub returns-then-self-clause-in_order : goal.returns-then-self-clause-in_order
returns-then-self-clause-in_order c = subst IsInOrder c.self.view_is (whole_order _ _ _ _ c.self.invariant)

pub returns-in_err-put_post-clause-in_order : goal.returns-in_err-put_post-clause-in_order
returns-in_err-put_post-clause-in_order c =
    subst (λ on. IsInOrder (with_posts c.put_post.new.off_wheel on)) (sym c.in_err-put_post.ensures.err.0)
    (subst (λ off. IsInOrder (with_posts off c.self.inside.wheel)) (sym c.in_err-put_post.ensures.err.1) (whole_order _ _ _ _ c.self.invariant))

pub invariant_of-self-2 : goal.invariant_of-self-2
invariant_of-self-2 c =
    let fits : c.args.post.due < 2 ^ 64 = search rules in
    put_whole _ _ _ _ _ _ _ _ c.args.post c.self.invariant c.in_ok-put_post.ensures.ok fits c.min-self-inside.ensures refl

pub returns-clause-ok : goal.returns-clause-ok
returns-clause-ok c = c.in_ok-put_post.ensures.ok.list ∙ ap (λ posts. with_post posts c.args.post) c.self.view_is

pub returns-clause-place : goal.returns-clause-place
returns-clause-place c =
    let old = with_posts c.self.inside.off_wheel c.self.inside.wheel in
    let now = with_posts c.put_post.new.off_wheel c.put_post.new.wheel in
    subst (λ posts. IsPutBetween posts c.args.post now) c.self.view_is
    (subst (IsPutBetween old c.args.post) (sym c.in_ok-put_post.ensures.ok.list) (put_between old c.args.post (whole_order _ _ _ _ c.self.invariant)))

pub returns-clause-in_order : goal.returns-clause-in_order
returns-clause-in_order c =
    subst IsInOrder (sym c.in_ok-put_post.ensures.ok.list) (in_order-with_post (with_posts c.self.inside.off_wheel c.self.inside.wheel) c.args.post (whole_order _ _ _ _ c.self.invariant))
