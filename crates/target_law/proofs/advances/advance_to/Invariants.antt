use Rattle.std.proofs.Common.{◌≡◌, ◌≤◌, ◌-◌, ◌++◌}
use Rattle.target_law.specs.Cycles.{ticks_of}
use Rattle.target_law.specs.Proper.{IsCore}
use Rattle.target_law.proofs.advances.advance_to.Given as goal

-- the ticks that are left lead from here to where all of them led from the first
abbrev pub invariant-loop-clock : goal.invariant-loop-clock
invariant-loop-clock g l =
    let rules = g.T.Target.rules l.target in
    let view = g.T.Target.values.core in
    let left = ticks_of rules l.clock (l.until - l.clock) (view l.core) in
    let all = ticks_of rules l.from (l.until - l.from) (view l.fn.core) in
    record {
      order : l.clock ≤ l.until;
      is : IsCore rules (g.T.Target.owns l.target) (view l.core);
      value : left.0 ≡ all.0;
      asks : l.asks ++ left.1 ≡ l.fn.asks ++ all.1;
    }

abbrev pub decreases-loop-clock : goal.decreases-loop-clock
decreases-loop-clock g l = l.until - l.clock
