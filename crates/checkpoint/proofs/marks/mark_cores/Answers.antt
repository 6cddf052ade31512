use Rattle.std.proofs.Common.{◌<◌, ◌≤◌, Some, length, rules, ◌∙◌}
use Rattle.target_law.specs.Proper.{IsCoreOf}
use Rattle.target_law.proofs.Loops.{core_at}
use Rattle.checkpoint.proofs.Numbered.{numbered_at}
use Rattle.checkpoint.proofs.Becoming.{GetsMarked}
use Rattle.target_law.proofs.OneByOne.{at_first, not_yet, changed_next, all_maps, map_some}
use Rattle.checkpoint.proofs.marks.mark_cores.Goals as goal

pub loop-core-init : goal.loop-core-init
loop-core-init g c = at_first (GetsMarked g.T.Target.values.core g.T.Target.values.saved_core) c.args.cores.now

pub mark_core-requires : goal.mark_core-requires
mark_core-requires g c =
    let Becomes = GetsMarked g.T.Target.values.core g.T.Target.values.saved_core in
    let target = c.args.target.now in
    let within : c.loop-core.core-index < length c.args.cores.now = search rules in
    let item = c.core-item.result in
    let is = not_yet Becomes c.loop-core.core-index c.args.cores.now c.loop-core.cores item within c.loop-core.invariant c.core-item.is in
    core_at (g.T.Target.rules target) (g.T.Target.owns target) c.loop-core.core-index _
    (numbered_at g.T.Target.values.core (IsCoreOf (g.T.Target.rules target) (g.T.Target.owns target)) c.args.cores.now c.loop-core.core-index item _ within is c.core-item.is c.requires)

pub loop-core-preserved : goal.loop-core-preserved
loop-core-preserved g c =
    let Becomes = GetsMarked g.T.Target.values.core g.T.Target.values.saved_core in
    let within : c.loop-core.core-index < length c.args.cores.now = search rules in
    changed_next Becomes c.loop-core.core-index c.args.cores.now c.loop-core.cores c.core-item.result c.mark_core.new.core within c.loop-core.invariant
    (record { same = c.in_ok-mark_core.ensures.core; mark = c.in_ok-mark_core.ensures.saved })

pub returns-clause-cores : goal.returns-clause-cores
returns-clause-cores g c =
    let Becomes = GetsMarked g.T.Target.values.core g.T.Target.values.saved_core in
    let done : length c.args.cores.now ≤ c.loop-core.core-index = search rules in
    all_maps Becomes g.T.Target.values.core g.T.Target.values.core (λ x y one. one.same) c.loop-core.core-index c.args.cores.now c.loop-core.cores done c.loop-core.invariant

pub returns-clause-saved : goal.returns-clause-saved
returns-clause-saved g c =
    let Becomes = GetsMarked g.T.Target.values.core g.T.Target.values.saved_core in
    let done : length c.args.cores.now ≤ c.loop-core.core-index = search rules in
    all_maps Becomes g.T.Target.values.saved_core (λ x. Some (g.T.Target.values.core x)) (λ x y one. one.mark) c.loop-core.core-index c.args.cores.now c.loop-core.cores done c.loop-core.invariant
    ∙ map_some _ _
