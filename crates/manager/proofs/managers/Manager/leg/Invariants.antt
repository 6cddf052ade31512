use Rattle.std.proofs.Common.{◌≡◌, ◌+◌, ◌-◌, ◌*◌, ◌^◌, ◌<◌, ◌≤◌, length}
use Rattle.drive_script.specs.Finishing.{NoKey}
use Rattle.manager.specs.Leads.{Led}
use Rattle.manager.specs.Queues.{queues_of, next_id}
use Rattle.manager.proofs.managers.Manager.leg.Given as goal

-- after a turn no ask that waits may be served
abbrev pub invariant-loop-self : goal.invariant-loop-self
invariant-loop-self g l = record {
  led : Led (g.T.Target.rules l.target) (g.T.Target.owns l.target) g.T.Target.values l.fn.self l.self;
  first : l.first ≡ length l.fn.self.served;
  cores : l.cores ≡ (g.T.Target.rules l.target).cores;
  idle : l.idle ≤ l.patience + 1;
  none : 0 < l.idle → NoKey (next_id (g.T.Target.rules l.target) (queues_of l.self.desks.items));
}

abbrev pub decreases-loop-self : goal.decreases-loop-self
decreases-loop-self g l = ((l.end - l.self.overseer.global) + (2 ^ 32 - (length l.self.served - l.first))) * (l.patience + 2) + ((l.patience + 1) - l.idle)
