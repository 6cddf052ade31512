use Rattle.std.proofs.Common.{◌<◌, ◌≤◌, Some, length, rules, ◌∙◌}
use Rattle.target_law.specs.Proper.{IsChanOf}
use Rattle.target_law.proofs.Loops.{chan_at}
use Rattle.checkpoint.proofs.Numbered.{numbered_at}
use Rattle.checkpoint.proofs.Becoming.{GetsMarked}
use Rattle.target_law.proofs.OneByOne.{at_first, not_yet, changed_next, all_maps, map_some}
use Rattle.checkpoint.proofs.marks.mark_chans.Goals as goal

pub loop-chan-init : goal.loop-chan-init
loop-chan-init g c = at_first (GetsMarked g.T.Target.values.chan g.T.Target.values.saved_chan) c.args.chans.now

pub mark_chan-requires : goal.mark_chan-requires
mark_chan-requires g c =
    let Becomes = GetsMarked g.T.Target.values.chan g.T.Target.values.saved_chan in
    let target = c.args.target.now in
    let within : c.loop-chan.chan-index < length c.args.chans.now = search rules in
    let item = c.chan-item.result in
    let is = not_yet Becomes c.loop-chan.chan-index c.args.chans.now c.loop-chan.chans item within c.loop-chan.invariant c.chan-item.is in
    chan_at (g.T.Target.rules target) (g.T.Target.owns target) c.loop-chan.chan-index _
    (numbered_at g.T.Target.values.chan (IsChanOf (g.T.Target.rules target) (g.T.Target.owns target)) c.args.chans.now c.loop-chan.chan-index item _ within is c.chan-item.is c.requires)

pub loop-chan-preserved : goal.loop-chan-preserved
loop-chan-preserved g c =
    let Becomes = GetsMarked g.T.Target.values.chan g.T.Target.values.saved_chan in
    let within : c.loop-chan.chan-index < length c.args.chans.now = search rules in
    changed_next Becomes c.loop-chan.chan-index c.args.chans.now c.loop-chan.chans c.chan-item.result c.mark_chan.new.chan within c.loop-chan.invariant
    (record { same = c.in_ok-mark_chan.ensures.chan; mark = c.in_ok-mark_chan.ensures.saved })

pub returns-clause-chans : goal.returns-clause-chans
returns-clause-chans g c =
    let Becomes = GetsMarked g.T.Target.values.chan g.T.Target.values.saved_chan in
    let done : length c.args.chans.now ≤ c.loop-chan.chan-index = search rules in
    all_maps Becomes g.T.Target.values.chan g.T.Target.values.chan (λ x y one. one.same) c.loop-chan.chan-index c.args.chans.now c.loop-chan.chans done c.loop-chan.invariant

pub returns-clause-saved : goal.returns-clause-saved
returns-clause-saved g c =
    let Becomes = GetsMarked g.T.Target.values.chan g.T.Target.values.saved_chan in
    let done : length c.args.chans.now ≤ c.loop-chan.chan-index = search rules in
    all_maps Becomes g.T.Target.values.saved_chan (λ x. Some (g.T.Target.values.chan x)) (λ x y one. one.mark) c.loop-chan.chan-index c.args.chans.now c.loop-chan.chans done c.loop-chan.invariant
    ∙ map_some _ _
