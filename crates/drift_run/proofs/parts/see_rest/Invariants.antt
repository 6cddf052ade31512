use Rattle.std.proofs.Common.{◌≡◌, ◌++◌, length, drop}
use Rattle.violation_watch.specs.Scan.{all_take_entries}
use Rattle.drift_run.proofs.Watched.{takens}
use Rattle.drift_run.proofs.parts.see_rest.Given as goal

-- what was found so far and what is still to be found are all
abbrev pub invariant-loop-lane : goal.invariant-loop-lane
invariant-loop-lane g l =
    let n = length l.yielded in
    record {
      found : l.found ++ all_take_entries n l.end (takens l.lane-iterator.a.rest.now) ≡ l.fn.before ++ all_take_entries 0 l.end (takens l.lanes);
      lanes : l.lane-iterator.a.rest.now ≡ drop n l.lanes;
      watches : l.lane-iterator.b.rest.items ≡ drop n l.fn.watches.items;
    }
