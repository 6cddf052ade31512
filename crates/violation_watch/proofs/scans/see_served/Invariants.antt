use Rattle.std.proofs.Common.{◌≡◌, ◌++◌, [], length, take, drop}
use Rattle.violation_watch.specs.Scan.{all_serve_entries}
use Rattle.violation_watch.specs.Watching.{Knows}
use Rattle.violation_watch.proofs.scans.see_served.Given as goal

-- what is recorded so far and what is still to be recorded are all
abbrev pub invariant-loop-ask : goal.invariant-loop-ask
invariant-loop-ask g l =
    let rules = g.T.Target.rules l.target in
    let n = length l.yielded in
    record {
      knows : Knows (take n l.asks) l.watch;
      found : l.watch.found ++ all_serve_entries rules (take n l.asks) (drop n l.clashes) (drop n l.asks) ≡ l.fn.watch.found ++ all_serve_entries rules [] l.clashes l.asks;
    }
