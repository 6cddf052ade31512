use Rattle.std.proofs.Common.{None, sym, subst}
use Rattle.std.proofs.lemmas.List.{get_or-replicate}
use Rattle.stamp_queue.specs.Slots.{IsSlot}
use Rattle.stamp_queue.proofs.inbox.slots.Slots.new.Goals as goal

pub invariant_of-result : goal.invariant_of-result
invariant_of-result c = λ k within. subst (IsSlot c.new.result.items k) (sym (get_or-replicate 256 k None None within)) tt
