use Rattle.stamp_queue.proofs.Fronts.{one_more_received}
use Rattle.stamp_queue.proofs.drains.receive_pushed.Goals as goal

pub returns-in_err-push-clause-behind : goal.returns-in_err-push-clause-behind
returns-in_err-push-clause-behind g c =
    (_, one_more_received _ _ _ _ _ _ _ c.loop.invariant.pushed c.pop_known.ensures.received.1 c.pop_known.ensures.received.0)
