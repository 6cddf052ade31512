use Rattle.std.proofs.Common.{◌≡◌, ◌∙◌, ◌%◌, arith, get_or, length, None, rules, set, Some, subst, sym}
use Rattle.std.proofs.lemmas.Result.{err_from_is_err_and}
use Rattle.stamp_queue.specs.Slots.{IsSlot, AreSlots}
use Rattle.stamp_queue.proofs.Slotted.{slots_changed, slots_same, posts_same, put_shows}
use Rattle.stamp_queue.proofs.inbox.slots.Slots.put.Goals as goal

pub insert-requires : goal.insert-requires
insert-requires c =
    let k = c.args.post.now.due % 256 in
    subst (λ slot. IsSlot c.self.inside.nodes.items k (get_or c.self.inside.firsts slot None)) (sym c.slot_of-slot.ensures) (c.self.invariant k (omega arith))

-- there was no memory
pub invariant_of-self : goal.invariant_of-self
invariant_of-self c = slots_same _ _ _ c.self.invariant c.in_err-place.ensures.err

pub returns-in_err-place-clause-err : goal.returns-in_err-place-clause-err
returns-in_err-place-clause-err c =
    let all : length c.self.inside.firsts ≡ 256 = search rules in
    let p = err_from_is_err_and c.from_residual.result c.from_residual.ensures.1 in
    rw p.1 (posts_same c.self.inside.nodes.items c.insert.new.nodes.items c.self.inside.firsts all c.self.invariant c.in_err-place.ensures.err ∙ c.self.view_is)

-- the slot has one post more
pub invariant_of-self-2 : goal.invariant_of-self-2
invariant_of-self-2 c =
    let k = c.args.post.now.due % 256 in
    let all : length c.self.inside.firsts ≡ 256 = search rules in
    subst (λ slot. AreSlots c.insert.new.nodes.items (set c.self.inside.firsts slot (Some c.in_ok-place.place))) (sym c.slot_of-slot.ensures)
    (slots_changed c.self.inside.nodes.items c.insert.new.nodes.items c.self.inside.firsts k (Some c.in_ok-place.place) all (omega arith) c.self.invariant c.in_ok-place.ensures.slot c.in_ok-place.ensures.others)

pub returns-clause-ok : goal.returns-clause-ok
returns-clause-ok c =
    let all : length c.self.inside.firsts ≡ 256 = search rules in
    put_shows c.self.inside.nodes.items c.insert.new.nodes.items c.self.inside.firsts (c.args.post.now.due % 256) c.slot_of-slot.result c.in_ok-place.place c.args.post.now c.args.self.now
    all (omega arith) c.slot_of-slot.ensures c.self.invariant c.self.view_is c.in_ok-place.ensures.posts c.in_ok-place.ensures.others
