use Rattle.std.proofs.Common.{◌<◌, ◌-◌, length, rules}
use Rattle.std.proofs.lemmas.List.Elements.{recursion_from_All}
use Rattle.target_law.specs.Cycles.{ticks_of}
use Rattle.target_law.specs.Proper.{IsCore}
use Rattle.target_law.proofs.Loops.{next_is, viewed_more, appended_more}
use Rattle.pacing.proofs.Stored.{numbered_views}
use Rattle.leap_run.proofs.sweeps.advance_all.Goals as goal

pub advance_to-requires-clause-core : goal.advance_to-requires-clause-core
advance_to-requires-clause-core g c κs within =
    let low : c.loop-core.core-index < length c.args.cores.now = search rules in
    let target = c.args.target.now in
    let tick = ticks_of (g.T.Target.rules target) c.args.from (c.args.until - c.args.from) in
    let Is = IsCore (g.T.Target.rules target) (g.T.Target.owns target) in
    next_is g.T.Target.values.core (λ core. (tick core).0) c.args.cores.now c.loop-core.cores c.loop-core.core-index c.core-item.result low c.core-item.is
    c.loop-core.invariant.cores (λ _ core. Is core) (numbered_views g.T.Target.values.core Is 0 c.args.cores.now (recursion_from_All (λ core. Is (g.T.Target.values.core core)) c.args.cores.now c.requires.cores))

pub loop-core-preserved : goal.loop-core-preserved
loop-core-preserved g c =
    let within : c.loop-core.core-index < length c.args.cores.now = search rules in
    let tick = ticks_of (g.T.Target.rules c.args.target.now) c.args.from (c.args.until - c.args.from) in
    record {
      cores =
          viewed_more g.T.Target.values.core (λ core. (tick core).0) c.args.cores.now c.loop-core.cores c.loop-core.core-index c.core-item.result within c.core-item.is
          c.loop-core.invariant.cores c.advance_to.new.core c.in_ok-advance_to.ensures.core;
      asks =
          appended_more g.T.Target.values.core (λ core. (tick core).0) c.args.cores.now c.loop-core.cores c.loop-core.core-index c.core-item.result within c.core-item.is
          c.loop-core.invariant.cores (λ core. (tick core).1) c.args.asks.now c.loop-core.asks c.advance_to.new.asks c.loop-core.invariant.asks c.in_ok-advance_to.ensures.asks;
    }
