use Rattle.std.proofs.Common.{◌∙◌, refl, sym}
use Rattle.timed_core.proofs.Due.{done, all_later}
use Rattle.timed_core.proofs.timed_cores.apply_due.Goals as goal

pub returns-clause-hart : goal.returns-clause-hart
returns-clause-hart c =
    (done c.args.base c.args.cycle c.len-before.result c.loop-post.hart.value c.args.hart.now.value c.loop-post.inbox c.args.inbox.now c.loop-post.out c.args.out.now
    (c.in_default.ensures.none.0 refl) c.len-before.ensures c.loop-post.invariant.posts).hart

pub returns-clause-inbox : goal.returns-clause-inbox
returns-clause-inbox c =
    c.in_default.ensures.unchanged ∙ sym (all_later c.args.cycle c.loop-post.inbox (c.in_default.ensures.none.0 refl)) ∙ c.loop-post.invariant.later

pub returns-clause-asks : goal.returns-clause-asks
returns-clause-asks c =
    (done c.args.base c.args.cycle c.len-before.result c.loop-post.hart.value c.args.hart.now.value c.loop-post.inbox c.args.inbox.now c.loop-post.out c.args.out.now
    (c.in_default.ensures.none.0 refl) c.len-before.ensures c.loop-post.invariant.posts).asks
