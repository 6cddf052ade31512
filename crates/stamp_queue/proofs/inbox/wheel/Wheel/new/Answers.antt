use Rattle.stamp_queue.proofs.Wheels.{new_wheel}
use Rattle.stamp_queue.proofs.inbox.wheel.Wheel.new.Goals as goal

pub invariant_of-result : goal.invariant_of-result
invariant_of-result c = (new_wheel c.new.result c.none.result c.new.ensures c.none.ensures).0

pub returns : goal.returns
returns c = (new_wheel c.new.result c.none.result c.new.ensures c.none.ensures).1
