use Rattle.std.proofs.Common.{◌≡◌, ◌-◌, ◌++◌, map, take, drop}
use Rattle.std.specs.List.{flat_map}
use Rattle.target_law.specs.Cycles.{ticks_of}
use Rattle.leap_run.proofs.sweeps.advance_all.Given as goal

-- the cores so far have gone on, and their asks are appended
abbrev pub invariant-loop-core : goal.invariant-loop-core
invariant-loop-core g l =
    let tick = ticks_of (g.T.Target.rules l.target) l.from (l.until - l.from) in
    let before = map g.T.Target.values.core l.fn.cores in
    record {
      cores : map g.T.Target.values.core l.cores ≡ map (λ core. (tick core).0) (take l.core-index before) ++ drop l.core-index before;
      asks : l.asks ≡ l.fn.asks ++ flat_map (λ core. (tick core).1) (take l.core-index before);
    }
