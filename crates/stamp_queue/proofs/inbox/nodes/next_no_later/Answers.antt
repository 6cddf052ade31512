use Rattle.std.proofs.Common.{◌∙◌, sym}
use Rattle.stamp_queue.proofs.Chains.{rest_within, next_later, next_no_later}
use Rattle.stamp_queue.proofs.inbox.nodes.next_no_later.Goals as goal

pub bounds-nodes-next : goal.bounds-nodes-next
bounds-nodes-next c = rest_within c.args.nodes.now _ c.args.place _ c.requires (sym c.rest.ensures ∙ c.in_ok-next.was)

pub returns-then-is_later : goal.returns-then-is_later
returns-then-is_later c =
    next_later c.args.nodes.now _ c.args.place _ c.args.post.now c.requires (sym c.rest.ensures ∙ c.in_ok-next.was) (sym c.is_later.ensures ∙ c.if-is_later.true)

pub returns-else-is_later : goal.returns-else-is_later
returns-else-is_later c =
    next_no_later c.args.nodes.now _ c.args.place _ c.args.post.now c.requires (sym c.rest.ensures ∙ c.in_ok-next.was) (sym c.is_later.ensures ∙ c.if-is_later.false)
