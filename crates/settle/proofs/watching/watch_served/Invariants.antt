use Rattle.std.proofs.Common.{◌≤◌, length, take}
use Rattle.violation_watch.specs.Watching.{SawServed}
use Rattle.settle.proofs.watching.watch_served.Given as goal

-- the asks so far were seen
abbrev pub invariant-loop-place : goal.invariant-loop-place
invariant-loop-place g l = record {
  saw : SawServed (g.T.Target.rules l.target) (take l.place l.clashes) (take l.place l.served) l.watch;
  within : l.place ≤ length l.served;
}
