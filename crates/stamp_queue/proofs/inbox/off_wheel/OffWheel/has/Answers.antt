use Rattle.std.proofs.Common.{MatchBool, subst}
use Rattle.stamp_queue.specs.OffWheel.{NoneHasDue}
use Rattle.stamp_queue.proofs.ByDue.{has_due}
use Rattle.stamp_queue.proofs.inbox.off_wheel.OffWheel.has.Goals as goal

pub returns : goal.returns
returns c =
    subst (λ posts. MatchBool c.contains_key.result (NoneHasDue posts c.args.due → ⊥) (NoneHasDue posts c.args.due)) c.self.view_is
    (rw c.contains_key.ensures (has_due c.self.inside.posts.entries c.args.due c.self.invariant))
