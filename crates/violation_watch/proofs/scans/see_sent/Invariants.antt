use Rattle.std.proofs.Common.{◌≡◌, ◌++◌, drop}
use Rattle.violation_watch.specs.Scan.{all_take_entries}
use Rattle.violation_watch.proofs.scans.see_sent.Given as goal

-- what is recorded so far and what is still to be recorded are all
abbrev pub invariant-loop-core : goal.invariant-loop-core
invariant-loop-core l = l.watch.found ++ all_take_entries l.core l.end (drop l.core l.sent) ≡ l.fn.watch.found ++ all_take_entries 0 l.end l.sent
