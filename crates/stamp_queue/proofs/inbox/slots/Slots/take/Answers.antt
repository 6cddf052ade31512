use Rattle.std.proofs.Common.{◌≡◌, ◌∙◌, ap, length, rules, Some, subst}
use Rattle.std.proofs.lemmas.List.{get_or_default}
use Rattle.stamp_queue.specs.Slots.{blank, node_at, IsSlot, rest_of}
use Rattle.stamp_queue.proofs.Chains.{chain_head, held_within, kept_is}
use Rattle.stamp_queue.proofs.Slotted.{take_shows}
use Rattle.stamp_queue.proofs.inbox.slots.Slots.take.Goals as goal

pub invariant_of-self : goal.invariant_of-self
invariant_of-self c =
    let nodes = c.self.inside.nodes.items in
    let place = c.in_ok-place.place in
    let all : length c.self.inside.firsts ≡ 256 = search rules in
    let chain : IsSlot nodes c.args.slot (Some place) = subst (IsSlot nodes c.args.slot) c.in_ok-place.was (c.self.invariant c.args.slot c.requires) in
    let within = held_within nodes c.args.slot _ place (chain_head nodes c.args.slot _ place chain) in
    let node_is : c.index_mut-node.result.now ≡ node_at nodes place = c.index_mut-node.ensures.value ∙ get_or_default nodes place c.index_mut-node.result.now blank within in
    let shows = take_shows nodes c.self.inside.firsts c.args.slot place c.release.new.self c.rest.result c.args.self.now all c.requires c.in_ok-place.was
    c.self.invariant c.self.view_is c.release.ensures.free (c.rest.ensures ∙ ap rest_of node_is) in
    shows.0

pub returns : goal.returns
returns c =
    let nodes = c.self.inside.nodes.items in
    let place = c.in_ok-place.place in
    let all : length c.self.inside.firsts ≡ 256 = search rules in
    let chain : IsSlot nodes c.args.slot (Some place) = subst (IsSlot nodes c.args.slot) c.in_ok-place.was (c.self.invariant c.args.slot c.requires) in
    let within = held_within nodes c.args.slot _ place (chain_head nodes c.args.slot _ place chain) in
    let node_is : c.index_mut-node.result.now ≡ node_at nodes place = c.index_mut-node.ensures.value ∙ get_or_default nodes place c.index_mut-node.result.now blank within in
    let shows = take_shows nodes c.self.inside.firsts c.args.slot place c.release.new.self c.rest.result c.args.self.now all c.requires c.in_ok-place.was
    c.self.invariant c.self.view_is c.release.ensures.free (c.rest.ensures ∙ ap rest_of node_is) in
    rw (ap (λ node. node.post) node_is ∙ kept_is (node_at nodes place) shows.1 shows.2) shows.3
