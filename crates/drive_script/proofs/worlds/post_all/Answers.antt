use Rattle.std.proofs.Common.{◌≡◌, ◌<◌, ◌+◌, ◌∷◌, ◌∙◌, map, drop, length, get_or, sym, ap, arith, add-one, drop-cons}
use Rattle.std.proofs.lemmas.List.{length-set}
use Rattle.target_law.proofs.Loops.{blank}
use Rattle.drive_script.specs.Views.{lane_of}
use Rattle.drive_script.specs.Worlds.{posted, with_waiting}
use Rattle.drive_script.proofs.Places.{stored_changed}
use Rattle.drive_script.proofs.worlds.post_all.Goals as goal

pub loop-post-preserved : goal.loop-post-preserved
loop-post-preserved g c =
    let view = lane_of g.T.Target.values in
    let i = c.loop-post.post-index in
    let posts = c.args.posts.now in
    let p = get_or posts i blank in
    let lanes = c.loop-post.lanes.items in
    let d = c.index_mut.result.now in
    let low = c.requires i blank c.loop-post-test.true in
    let count = c.loop-post.invariant.count in
    let within : p.to < length lanes = omega (arith, low, count) in
    let cut : drop i posts ≡ p ∷ drop (i + 1) posts = drop-cons posts i blank c.loop-post-test.true ∙ ap (λ n. p ∷ drop n posts) (sym (add-one i)) in
    record {
      count = length-set lanes _ _ ∙ count;
      lanes =
          ap (λ ls. posted ls (drop (i + 1) posts))
          (stored_changed view p.to lanes d within c.index_mut.ensures.value (with_waiting p) (record d { posts = c.push_back.new.self })
          (ap (λ ps. record (view d) { posts = ps }) c.in_ok-push_back.ensures.items))
          ∙ sym (ap (posted (map view lanes)) cut) ∙ c.loop-post.invariant.lanes;
    }
