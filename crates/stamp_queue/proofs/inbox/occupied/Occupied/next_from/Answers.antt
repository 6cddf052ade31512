use Rattle.std.proofs.Common.{arith}
use Rattle.stamp_queue.proofs.Marks.{searched_first, searched_more, searched_found}
use Rattle.stamp_queue.proofs.inbox.occupied.Occupied.next_from.Goals as goal

pub loop-bits-init : goal.loop-bits-init
loop-bits-init c = searched_first c.args.self.now c.args.slot c.requires

pub loop-bits-preserved : goal.loop-bits-preserved
loop-bits-preserved c =
    searched_more _ _ _ _ c.requires c.loop-bits.invariant c.loop-bits-test.true (omega (arith, c.loop-bits.invariant.within))

pub returns : goal.returns
returns c = searched_found _ _ _ _ _ c.loop-bits.invariant c.lowest_bit.ensures
