use Rattle.std.proofs.Common.{◌≡◌, ◌<◌, ◌≤◌, ◌∙◌, length, map, ap, arith}
use Rattle.std.proofs.lemmas.List.{length-map}
use Rattle.target_law.specs.Proper.{IsChanOf}
use Rattle.target_law.proofs.Loops.{chan_at, next_is, viewed_more}
use Rattle.drive_script.proofs.Places.{given_back, all_changed}
use Rattle.drive_script.proofs.ends.close_all.Goals as goal

pub close-requires : goal.close-requires
close-requires g c =
    let target = c.args.target.now in
    let rules = g.T.Target.rules target in
    let owns = g.T.Target.owns target in
    let chans = c.args.chans.now in
    let within : c.loop-chan.chan-index < length chans.items = omega (arith, c.loop-chan-test.true, c.deref_mut-chan-items.ensures.len, chans.ok.0) in
    chan_at rules owns c.loop-chan.chan-index _
    (next_is g.T.Target.values.chan rules.close chans.items c.loop-chan.chan-items c.loop-chan.chan-index c.chan-item.result within c.chan-item.is
    c.loop-chan.invariant (IsChanOf rules owns) c.requires)

pub loop-chan-preserved : goal.loop-chan-preserved
loop-chan-preserved g c =
    let chans = c.args.chans.now in
    let within : c.loop-chan.chan-index < length chans.items = omega (arith, c.loop-chan-test.true, c.deref_mut-chan-items.ensures.len, chans.ok.0) in
    viewed_more g.T.Target.values.chan (g.T.Target.rules c.args.target.now).close chans.items c.loop-chan.chan-items c.loop-chan.chan-index c.chan-item.result within c.chan-item.is
    c.loop-chan.invariant c.close.new.chan c.close.ensures.chan

pub returns : goal.returns
returns g c =
    let view = g.T.Target.values.chan in
    let chans = c.args.chans.now in
    let items = c.loop-chan.chan-items in
    let lent = c.deref_mut-chan-items.ensures.len in
    let same : length items ≡ length chans.items = omega (arith, c.loop-chan.auto.chan-items, lent, chans.ok.0) in
    let count = chans.ok.0 in
    let end : length (map view chans.items) ≤ c.loop-chan.chan-index = omega (arith, length-map chans.items view, c.loop-chan-test.false, lent, chans.ok.0) in
    ap (map view) (given_back chans.len chans.items items (omega (arith, count)) same)
    ∙ c.loop-chan.invariant
    ∙ all_changed (g.T.Target.rules c.args.target.now).close c.loop-chan.chan-index (map view chans.items) end
