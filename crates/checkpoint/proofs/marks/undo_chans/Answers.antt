use Rattle.std.proofs.Common.{◌<◌, ◌≤◌, ◌≡◌, ◌∙◌, IsSome, Some, None, length, rules, sym, subst}
use Rattle.checkpoint.proofs.Becoming.{GoesBack, back_at}
use Rattle.target_law.proofs.OneByOne.{at_first, not_yet, changed_next, all_maps, all_are, map_some}
use Rattle.checkpoint.proofs.marks.undo_chans.Goals as goal

pub loop-chan-init : goal.loop-chan-init
loop-chan-init g c = at_first (GoesBack g.T.Target.values.chan g.T.Target.values.saved_chan) c.args.chans.now

pub loop-chan-preserved : goal.loop-chan-preserved
loop-chan-preserved g c =
    let Becomes = GoesBack g.T.Target.values.chan g.T.Target.values.saved_chan in
    let within : c.loop-chan.chan-index < length c.args.chans.now = search rules in
    let item = c.chan-item.result in
    let is = not_yet Becomes c.loop-chan.chan-index c.args.chans.now c.loop-chan.chans item within c.loop-chan.invariant c.chan-item.is in
    let some = subst (λ x. IsSome (g.T.Target.values.saved_chan x)) (sym is ∙ c.chan-item.is) (c.requires c.loop-chan.chan-index item within) in
    changed_next Becomes c.loop-chan.chan-index c.args.chans.now c.loop-chan.chans c.chan-item.result c.undo_chan.new.chan within c.loop-chan.invariant
    (record { back = back_at _ _ some c.undo_chan.ensures.marked; no_mark = c.undo_chan.ensures.saved })

pub returns-clause-chans : goal.returns-clause-chans
returns-clause-chans g c =
    let Becomes = GoesBack g.T.Target.values.chan g.T.Target.values.saved_chan in
    let done : length c.args.chans.now ≤ c.loop-chan.chan-index = search rules in
    sym (all_maps Becomes (λ x. Some (g.T.Target.values.chan x)) g.T.Target.values.saved_chan (λ x y one. sym one.back) c.loop-chan.chan-index c.args.chans.now c.loop-chan.chans done c.loop-chan.invariant)
    ∙ map_some _ _

pub returns-clause-unmarked : goal.returns-clause-unmarked
returns-clause-unmarked g c =
    let Becomes = GoesBack g.T.Target.values.chan g.T.Target.values.saved_chan in
    let done : length c.args.chans.now ≤ c.loop-chan.chan-index = search rules in
    all_are Becomes (λ x. g.T.Target.values.saved_chan x ≡ None) (λ x y one. one.no_mark) c.loop-chan.chan-index c.args.chans.now c.loop-chan.chans done c.loop-chan.invariant
