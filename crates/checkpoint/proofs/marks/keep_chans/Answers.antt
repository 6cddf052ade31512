use Rattle.std.proofs.Common.{◌<◌, ◌≤◌, ◌≡◌, None, length, rules}
use Rattle.checkpoint.proofs.Becoming.{GetsKept}
use Rattle.target_law.proofs.OneByOne.{at_first, changed_next, all_maps, all_are}
use Rattle.checkpoint.proofs.marks.keep_chans.Goals as goal

pub loop-chan-init : goal.loop-chan-init
loop-chan-init g c = at_first (GetsKept g.T.Target.values.chan g.T.Target.values.saved_chan) c.args.chans.now

pub loop-chan-preserved : goal.loop-chan-preserved
loop-chan-preserved g c =
    let Becomes = GetsKept g.T.Target.values.chan g.T.Target.values.saved_chan in
    let within : c.loop-chan.chan-index < length c.args.chans.now = search rules in
    changed_next Becomes c.loop-chan.chan-index c.args.chans.now c.loop-chan.chans c.chan-item.result c.keep_chan.new.chan within c.loop-chan.invariant
    (record { same = c.keep_chan.ensures.chan; no_mark = c.keep_chan.ensures.saved })

pub returns-clause-chans : goal.returns-clause-chans
returns-clause-chans g c =
    let Becomes = GetsKept g.T.Target.values.chan g.T.Target.values.saved_chan in
    let done : length c.args.chans.now ≤ c.loop-chan.chan-index = search rules in
    all_maps Becomes g.T.Target.values.chan g.T.Target.values.chan (λ x y one. one.same) c.loop-chan.chan-index c.args.chans.now c.loop-chan.chans done c.loop-chan.invariant

pub returns-clause-unmarked : goal.returns-clause-unmarked
returns-clause-unmarked g c =
    let Becomes = GetsKept g.T.Target.values.chan g.T.Target.values.saved_chan in
    let done : length c.args.chans.now ≤ c.loop-chan.chan-index = search rules in
    all_are Becomes (λ x. g.T.Target.values.saved_chan x ≡ None) (λ x y one. one.no_mark) c.loop-chan.chan-index c.args.chans.now c.loop-chan.chans done c.loop-chan.invariant
