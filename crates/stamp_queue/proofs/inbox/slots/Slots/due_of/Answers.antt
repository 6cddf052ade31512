use Rattle.std.proofs.Common.{◌≡◌, ◌∙◌, ap, Some, subst, sym}
use Rattle.std.proofs.lemmas.List.{get_or_default}
use Rattle.stamp_queue.specs.Inbox.{next_due}
use Rattle.stamp_queue.specs.Slots.{blank, node_at, slot_posts, IsSlot}
use Rattle.stamp_queue.specs.Wheel.{posts_in}
use Rattle.stamp_queue.proofs.Chains.{chain_head, held_within, held_post, kept_is}
use Rattle.stamp_queue.proofs.Slotted.{first_due, read_slot}
use Rattle.stamp_queue.proofs.inbox.slots.Slots.due_of.Goals as goal

pub returns-in-Some : goal.returns-in-Some
returns-in-Some c =
    let nodes = c.self.inside.nodes.items in
    let slot = c.args.slot in
    let place = c.in-Some.place in
    let chain : IsSlot nodes slot (Some place) = subst (IsSlot nodes slot) c.in-Some.is (c.self.invariant slot c.requires) in
    let head = chain_head nodes slot _ place chain in
    let held = held_post nodes slot _ place head in
    let node_is : c.index.result.now ≡ node_at nodes place = c.index.ensures ∙ get_or_default nodes place c.index.result.now blank (held_within nodes slot _ place head) in
    let due : c.index.result.now.post.due ≡ held.0.due = ap (λ node. node.post.due) node_is ∙ ap (λ p. p.due) (kept_is (node_at nodes place) held.0 held.1) in
    due ∙ sym (first_due nodes slot place held.0 chain held.1) ∙ ap (λ s. next_due (slot_posts nodes s)) (sym c.in-Some.is)
    ∙ ap next_due (sym (read_slot nodes c.self.inside.firsts slot)) ∙ ap (λ lists. next_due (posts_in lists slot)) c.self.view_is
