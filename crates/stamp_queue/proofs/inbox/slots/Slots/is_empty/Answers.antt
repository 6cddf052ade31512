use Rattle.std.proofs.Common.{◌≡◌, ◌∙◌, get_or, None, not, sym, ap, rules}
use Rattle.std.specs.Option.{is_some}
use Rattle.stamp_queue.specs.Wheel.{posts_in}
use Rattle.stamp_queue.specs.Slots.{slot_posts}
use Rattle.stamp_queue.proofs.Slotted.{empty_slot, slot_empty, read_slot}
use Rattle.stamp_queue.proofs.inbox.slots.Slots.is_empty.Goals as goal

pub returns : goal.returns
returns c =
    let nodes = c.self.inside.nodes.items in
    let slot = get_or c.self.inside.firsts c.args.slot None in
    let is = c.self.invariant c.args.slot c.requires in
    let read : posts_in c.args.self.now c.args.slot ≡ slot_posts nodes slot =
    ap (λ lists. posts_in lists c.args.slot) (sym c.self.view_is) ∙ read_slot nodes c.self.inside.firsts c.args.slot in
    let none : c.is_none.result ≡ not (is_some slot) = search rules in
    (λ h. read ∙ empty_slot nodes c.args.slot slot is (c.is_none.ensures ∙ ap not h), λ h. none ∙ ap not (slot_empty nodes c.args.slot slot is (sym read ∙ h)))
