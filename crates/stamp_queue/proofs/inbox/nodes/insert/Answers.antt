use Rattle.std.proofs.Common.{◌≡◌, ◌∙◌, ◌++◌, List, length, take, drop, refl, sym, ap, subst, Some}
use Rattle.slack_base.specs.Inboxes.{with_post}
use Rattle.stamp_queue.specs.declared.inbox.nodes.Node.{Node}
use Rattle.stamp_queue.specs.Slots.{slot_posts, KeepsSlot, chain_len}
use Rattle.stamp_queue.proofs.Chains.{inserted, keeps_twice, replaced_all}
use Rattle.stamp_queue.proofs.inbox.nodes.insert.Goals as goal

-- the place holds the post
pub settle-requires : goal.settle-requires
settle-requires c =
    let counted : c.in_ok-behind.behind ≡ chain_len c.deref.result.now c.args.first = rw c.in_ok-behind.ensures.ok_part at c.count_from.ensures in
    let count : c.in_ok-behind.behind ≡ chain_len c.args.nodes.now.items c.args.first = counted ∙ ap (λ nodes. chain_len nodes c.args.first) c.deref.ensures.value in
    rw c.deref_mut.ensures.value
    (inserted c.args.nodes.now.items c.put_node.new.nodes.items _ _ _ c.args.post.now _ _ c.in_ok-place.ensures.ok c.requires refl c.unwrap_or.ensures count).0

-- and the post settles
pub returns-then-behind-gt0-clause-posts : goal.returns-then-behind-gt0-clause-posts
returns-then-behind-gt0-clause-posts c =
    let place = c.in_ok-place.place in
    let old = c.args.nodes.now.items in
    let now = c.settle.new.nodes in
    let counted : c.in_ok-behind.behind ≡ chain_len c.deref.result.now c.args.first = rw c.in_ok-behind.ensures.ok_part at c.count_from.ensures in
    let count : c.in_ok-behind.behind ≡ chain_len old c.args.first = counted ∙ ap (λ nodes. chain_len nodes c.args.first) c.deref.ensures.value in
    let put = inserted old c.put_node.new.nodes.items _ _ _ c.args.post.now _ _ c.in_ok-place.ensures.ok c.requires refl c.unwrap_or.ensures count in
    let size : length now ≡ length c.deref_mut.result.now = c.settle.auto.nodes in
    let whole = replaced_all c.deref_mut.result.now now c.put_node.new.nodes.len (sym c.deref_mut.ensures.len) size in
    let final : (◌≡◌ {A = List Node} _ now) = ap (λ nodes. take c.put_node.new.nodes.len (now ++ drop (length now) nodes)) (sym c.deref_mut.ensures.value) ∙ whole in
    subst (λ nodes. slot_posts nodes (Some place) ≡ with_post (slot_posts old c.args.first) c.args.post.now) (sym final)
    (c.settle.ensures.posts ∙ ap (λ nodes. with_post (drop 1 (slot_posts nodes (Some place))) c.args.post.now) c.deref_mut.ensures.value
    ∙ ap (λ posts. with_post posts c.args.post.now) put.1)

pub returns-then-behind-gt0-clause-others : goal.returns-then-behind-gt0-clause-others
returns-then-behind-gt0-clause-others c =
    let old = c.args.nodes.now.items in
    let now = c.settle.new.nodes in
    let counted : c.in_ok-behind.behind ≡ chain_len c.deref.result.now c.args.first = rw c.in_ok-behind.ensures.ok_part at c.count_from.ensures in
    let count : c.in_ok-behind.behind ≡ chain_len old c.args.first = counted ∙ ap (λ nodes. chain_len nodes c.args.first) c.deref.ensures.value in
    let put = inserted old c.put_node.new.nodes.items _ _ _ c.args.post.now _ _ c.in_ok-place.ensures.ok c.requires refl c.unwrap_or.ensures count in
    let size : length now ≡ length c.deref_mut.result.now = c.settle.auto.nodes in
    let whole = replaced_all c.deref_mut.result.now now c.put_node.new.nodes.len (sym c.deref_mut.ensures.len) size in
    let final : (◌≡◌ {A = List Node} _ now) = ap (λ nodes. take c.put_node.new.nodes.len (now ++ drop (length now) nodes)) (sym c.deref_mut.ensures.value) ∙ whole in
    λ k apart. subst (λ nodes. KeepsSlot old nodes k) (sym final)
    (keeps_twice old c.deref_mut.result.now now k (subst (λ nodes. KeepsSlot old nodes k) (sym c.deref_mut.ensures.value) (put.2 k)) (c.settle.ensures.others k apart))
