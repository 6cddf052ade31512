use Rattle.std.proofs.Common.{◌≢◌, ◌∙◌, ◌<◌, ◌^◌, ap, rules, subst}
use Rattle.std.specs.List.{AllByRecursion}
use Rattle.slack_base.specs.Inboxes.{with_post}
use Rattle.stamp_queue.proofs.Wheels.{put_wheel, outside_none}
use Rattle.stamp_queue.proofs.inbox.wheel.Wheel.put.Goals as goal

-- no post of the wheel has the due
pub returns-in_default-clause-outside : goal.returns-in_default-clause-outside
returns-in_default-clause-outside c =
    subst (AllByRecursion (λ p. p.due ≢ c.args.post.now.due)) c.self.view_is
    (outside_none c.self.inside.slots c.self.inside.floor c.self.inside.first c.args.post.now.due c.self.invariant.held c.in_default.ensures.none)

pub invariant_of-self-2 : goal.invariant_of-self-2
invariant_of-self-2 c =
    let fits : c.args.post.now.due < 2 ^ 64 = search rules in
    (put_wheel _ _ _ _ _ _ _ _ _ c.args.post.now c.self.invariant c.in-Some.ensures.grows c.in-Some.ensures.holds c.slot_of.ensures c.in_ok-put.ensures.ok
    c.insert.ensures.here c.insert.ensures.others fits c.min-self-inside.ensures).0

pub returns-clause-ok : goal.returns-clause-ok
returns-clause-ok c =
    let fits : c.args.post.now.due < 2 ^ 64 = search rules in
    (put_wheel _ _ _ _ _ _ _ _ _ c.args.post.now c.self.invariant c.in-Some.ensures.grows c.in-Some.ensures.holds c.slot_of.ensures c.in_ok-put.ensures.ok
    c.insert.ensures.here c.insert.ensures.others fits c.min-self-inside.ensures).1 ∙ ap (λ posts. with_post posts c.args.post.now) c.self.view_is
