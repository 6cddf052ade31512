use Rattle.std.proofs.Common.{◌<◌, ◌≤◌, length, rules}
use Rattle.target_law.specs.Proper.{IsCoreOf}
use Rattle.target_law.specs.Trio.{trio_rules, trio_owns, trio_values}
use Rattle.target_law.proofs.Loops.{core_at}
use Rattle.checkpoint.proofs.Numbered.{numbered_at}
use Rattle.checkpoint.proofs.Becoming.{HasSameMark}
use Rattle.target_law.proofs.OneByOne.{at_first, not_yet, changed_next, all_maps}
use Rattle.trio_tests.proofs.marks.tick_each.Goals as goal

pub loop-core-init : goal.loop-core-init
loop-core-init c = at_first (HasSameMark trio_values.saved_core) c.args.cores.now

pub tick_one-requires-clause-core : goal.tick_one-requires-clause-core
tick_one-requires-clause-core c =
    let Becomes = HasSameMark trio_values.saved_core in
    let within : c.loop-core.core-index < length c.args.cores.now = search rules in
    let item = c.core-item.result in
    let is = not_yet Becomes c.loop-core.core-index c.args.cores.now c.loop-core.cores item within c.loop-core.invariant c.core-item.is in
    core_at trio_rules trio_owns c.loop-core.core-index _
    (numbered_at trio_values.core (IsCoreOf trio_rules trio_owns) c.args.cores.now c.loop-core.core-index item _ within is c.core-item.is c.requires.cores)

pub loop-core-preserved : goal.loop-core-preserved
loop-core-preserved c =
    let Becomes = HasSameMark trio_values.saved_core in
    let within : c.loop-core.core-index < length c.args.cores.now = search rules in
    changed_next Becomes c.loop-core.core-index c.args.cores.now c.loop-core.cores c.core-item.result c.tick_one.new.core within c.loop-core.invariant
    c.in_ok-tick_one.ensures

pub returns : goal.returns
returns c =
    let Becomes = HasSameMark trio_values.saved_core in
    let done : length c.args.cores.now ≤ c.loop-core.core-index = search rules in
    all_maps Becomes trio_values.saved_core trio_values.saved_core (λ x y same. same)
    c.loop-core.core-index c.args.cores.now c.loop-core.cores done c.loop-core.invariant
