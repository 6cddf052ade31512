use Rattle.std.proofs.Common.{◌<◌, ◌≤◌, ◌≡◌, ◌∙◌, IsSome, Some, None, length, rules, sym, subst}
use Rattle.checkpoint.proofs.Becoming.{GoesBack, back_at}
use Rattle.target_law.proofs.OneByOne.{at_first, not_yet, changed_next, all_maps, all_are, map_some}
use Rattle.checkpoint.proofs.marks.undo_cores.Goals as goal

pub loop-core-init : goal.loop-core-init
loop-core-init g c = at_first (GoesBack g.T.Target.values.core g.T.Target.values.saved_core) c.args.cores.now

pub loop-core-preserved : goal.loop-core-preserved
loop-core-preserved g c =
    let Becomes = GoesBack g.T.Target.values.core g.T.Target.values.saved_core in
    let within : c.loop-core.core-index < length c.args.cores.now = search rules in
    let item = c.core-item.result in
    let is = not_yet Becomes c.loop-core.core-index c.args.cores.now c.loop-core.cores item within c.loop-core.invariant c.core-item.is in
    let some = subst (λ x. IsSome (g.T.Target.values.saved_core x)) (sym is ∙ c.core-item.is) (c.requires c.loop-core.core-index item within) in
    changed_next Becomes c.loop-core.core-index c.args.cores.now c.loop-core.cores c.core-item.result c.undo_core.new.core within c.loop-core.invariant
    (record { back = back_at _ _ some c.undo_core.ensures.marked; no_mark = c.undo_core.ensures.saved })

pub returns-clause-cores : goal.returns-clause-cores
returns-clause-cores g c =
    let Becomes = GoesBack g.T.Target.values.core g.T.Target.values.saved_core in
    let done : length c.args.cores.now ≤ c.loop-core.core-index = search rules in
    sym (all_maps Becomes (λ x. Some (g.T.Target.values.core x)) g.T.Target.values.saved_core (λ x y one. sym one.back) c.loop-core.core-index c.args.cores.now c.loop-core.cores done c.loop-core.invariant)
    ∙ map_some _ _

pub returns-clause-unmarked : goal.returns-clause-unmarked
returns-clause-unmarked g c =
    let Becomes = GoesBack g.T.Target.values.core g.T.Target.values.saved_core in
    let done : length c.args.cores.now ≤ c.loop-core.core-index = search rules in
    all_are Becomes (λ x. g.T.Target.values.saved_core x ≡ None) (λ x y one. one.no_mark) c.loop-core.core-index c.args.cores.now c.loop-core.cores done c.loop-core.invariant
