use Rattle.std.proofs.Common.{◌≤◌, length, take}
use Rattle.violation_watch.specs.Watching.{SawTaken}
use Rattle.settle.proofs.watching.watch_taken.Given as goal

-- the posts so far were seen
abbrev pub invariant-loop-place : goal.invariant-loop-place
invariant-loop-place l = record {
  saw : SawTaken l.core l.end (take l.place l.taken) l.watch;
  within : l.place ≤ length l.taken;
}
