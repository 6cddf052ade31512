use Rattle.stamp_queue.proofs.Marks.{none_marked}
use Rattle.stamp_queue.proofs.inbox.occupied.Occupied.none.Goals as goal

pub returns : goal.returns
returns c k from end = none_marked k end
