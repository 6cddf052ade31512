use Rattle.std.proofs.Common.{◌<◌, ◌∙◌, length, refl, get_or, arith}
use Rattle.drive_script.proofs.Places.{stored_same}
use Rattle.target_law.proofs.Loops.{blank}
use Rattle.manager.specs.declared.managers.Desk.{Desk}
use Rattle.manager.proofs.Desks.{sent_begins, sent_more}
use Rattle.manager.proofs.Places.{get_read}
use Rattle.manager.proofs.turns.send_all.Goals as goal

pub loop-post-init : goal.loop-post-init
loop-post-init c = record { desks = sent_begins c.args.desks.now.items; queues = refl }

pub loop-post-preserved : goal.loop-post-preserved
loop-post-preserved c =
    let ps = c.args.posts.now in
    let k = c.loop-post.post-index in
    let p = get_or ps k blank in
    let ys = c.loop-post.desks.items in
    let y = c.index_mut.result.now in
    let h = c.loop-post.invariant in
    let inside = c.loop-post-test.true in
    let low = c.requires k blank inside in
    let count = h.desks.count in
    let within : p.to < length ys = omega (arith, low, count) in
    record {
      desks = sent_more ps k p blank c.args.desks.now.items ys y c.send.new.self h.desks inside refl (get_read ys p.to y within c.index_mut.ensures.value) c.in_ok-send.ensures.sent c.send.ensures.same;
      queues = stored_same (λ (desk : Desk). desk.pending.items) p.to ys y within c.index_mut.ensures.value (record y { posts = c.send.new.self }) refl ∙ h.queues;
    }
