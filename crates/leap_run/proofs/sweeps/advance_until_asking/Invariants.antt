use Rattle.std.proofs.Common.{◌≡◌, ◌-◌, ◌<◌, ◌≤◌}
use Rattle.target_law.specs.Cycles.{ticks_of}
use Rattle.target_law.specs.Proper.{IsCore}
use Rattle.leap_run.specs.Leaps.{IsQuiet}
use Rattle.leap_run.proofs.sweeps.advance_until_asking.Given as goal

-- the core has ticked so far, and only in the last tick it may have sent something
abbrev pub invariant-loop-clock : goal.invariant-loop-clock
invariant-loop-clock g l =
    let rules = g.T.Target.rules l.target in
    let view = g.T.Target.values.core in
    let now = ticks_of rules l.from (l.clock - l.from) (view l.fn.core) in
    record {
      ahead : l.from < l.clock;
      order : l.clock ≤ l.until;
      is : IsCore rules (g.T.Target.owns l.target) (view l.core);
      core : view l.core ≡ now.0;
      asks : l.asks ≡ now.1;
      last : IsQuiet rules l.from (l.clock - l.from - 1) (view l.fn.core);
    }

abbrev pub decreases-loop-clock : goal.decreases-loop-clock
decreases-loop-clock g l = l.until - l.clock
