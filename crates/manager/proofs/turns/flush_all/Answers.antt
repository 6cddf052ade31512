use Rattle.std.proofs.Common.{◌<◌, ◌∙◌, length, refl, rules}
use Rattle.drive_script.proofs.Places.{stored_same}
use Rattle.manager.specs.declared.managers.Desk.{Desk}
use Rattle.manager.proofs.Desks.{sent_begins, flushed_more}
use Rattle.manager.proofs.Places.{get_read}
use Rattle.manager.proofs.turns.flush_all.Goals as goal

pub loop-place-init : goal.loop-place-init
loop-place-init c = record { desks = sent_begins c.args.desks.now.items; queues = refl }

pub loop-place-preserved : goal.loop-place-preserved
loop-place-preserved c =
    let ys = c.loop-place.desks.items in
    let y = c.index_mut.result.now in
    let h = c.loop-place.invariant in
    let within : c.loop-place.place < length ys = search rules in
    record {
      desks = flushed_more c.loop-place.place c.args.desks.now.items ys y c.flush.new.self h.desks (get_read ys c.loop-place.place y within c.index_mut.ensures.value) c.flush.ensures.sent c.flush.ensures.same;
      queues = stored_same (λ (desk : Desk). desk.pending.items) c.loop-place.place ys y within c.index_mut.ensures.value (record y { posts = c.flush.new.self }) refl ∙ h.queues;
    }
