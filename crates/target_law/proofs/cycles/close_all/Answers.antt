use Rattle.std.proofs.Common.{◌<◌, length, rules}
use Rattle.target_law.specs.Proper.{IsChanOf}
use Rattle.target_law.proofs.Loops.{chan_at, next_is, viewed_more}
use Rattle.target_law.proofs.cycles.close_all.Goals as goal

pub close-requires : goal.close-requires
close-requires g c =
    let within : c.loop-chan.chan-index < length c.args.chans.now = search rules in
    let target = c.args.target.now in
    let Is = IsChanOf (g.T.Target.rules target) (g.T.Target.owns target) in
    chan_at (g.T.Target.rules target) (g.T.Target.owns target) c.loop-chan.chan-index _
    (next_is g.T.Target.values.chan (g.T.Target.rules target).close c.args.chans.now c.loop-chan.chans c.loop-chan.chan-index c.chan-item.result within c.chan-item.is
    c.loop-chan.invariant Is c.requires)

pub loop-chan-preserved : goal.loop-chan-preserved
loop-chan-preserved g c =
    let within : c.loop-chan.chan-index < length c.args.chans.now = search rules in
    viewed_more g.T.Target.values.chan (g.T.Target.rules c.args.target.now).close c.args.chans.now c.loop-chan.chans c.loop-chan.chan-index c.chan-item.result within c.chan-item.is
    c.loop-chan.invariant c.close.new.chan c.close.ensures.chan
