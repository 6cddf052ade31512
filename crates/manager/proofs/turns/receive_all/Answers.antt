use Rattle.std.proofs.Common.{◌<◌, length, refl, rules}
use Rattle.manager.proofs.Desks.{received_begins, received_more}
use Rattle.manager.proofs.Places.{get_read}
use Rattle.manager.proofs.turns.receive_all.Goals as goal

pub loop-place-init : goal.loop-place-init
loop-place-init c = received_begins c.args.desks.now.items

pub loop-place-preserved : goal.loop-place-preserved
loop-place-preserved c =
    let ys = c.loop-place.desks.items in
    let y = c.index_mut-desk.result.now in
    let within : c.loop-place.place < length ys = search rules in
    received_more c.loop-place.place c.args.desks.now.items ys y (record y { asks = c.receive.new.asks; pending = c.receive.new.pending }) c.loop-place.invariant
    (get_read ys c.loop-place.place y within c.index_mut-desk.ensures.value) c.in_ok-receive.ensures.items c.receive.ensures.same refl
