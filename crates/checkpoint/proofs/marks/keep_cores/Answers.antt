use Rattle.std.proofs.Common.{◌<◌, ◌≤◌, ◌≡◌, None, length, rules}
use Rattle.checkpoint.proofs.Becoming.{GetsKept}
use Rattle.target_law.proofs.OneByOne.{at_first, changed_next, all_maps, all_are}
use Rattle.checkpoint.proofs.marks.keep_cores.Goals as goal

pub loop-core-init : goal.loop-core-init
loop-core-init g c = at_first (GetsKept g.T.Target.values.core g.T.Target.values.saved_core) c.args.cores.now

pub loop-core-preserved : goal.loop-core-preserved
loop-core-preserved g c =
    let Becomes = GetsKept g.T.Target.values.core g.T.Target.values.saved_core in
    let within : c.loop-core.core-index < length c.args.cores.now = search rules in
    changed_next Becomes c.loop-core.core-index c.args.cores.now c.loop-core.cores c.core-item.result c.keep_core.new.core within c.loop-core.invariant
    (record { same = c.keep_core.ensures.core; no_mark = c.keep_core.ensures.saved })

pub returns-clause-cores : goal.returns-clause-cores
returns-clause-cores g c =
    let Becomes = GetsKept g.T.Target.values.core g.T.Target.values.saved_core in
    let done : length c.args.cores.now ≤ c.loop-core.core-index = search rules in
    all_maps Becomes g.T.Target.values.core g.T.Target.values.core (λ x y one. one.same) c.loop-core.core-index c.args.cores.now c.loop-core.cores done c.loop-core.invariant

pub returns-clause-unmarked : goal.returns-clause-unmarked
returns-clause-unmarked g c =
    let Becomes = GetsKept g.T.Target.values.core g.T.Target.values.saved_core in
    let done : length c.args.cores.now ≤ c.loop-core.core-index = search rules in
    all_are Becomes (λ x. g.T.Target.values.saved_core x ≡ None) (λ x y one. one.no_mark) c.loop-core.core-index c.args.cores.now c.loop-core.cores done c.loop-core.invariant
