use Rattle.std.proofs.Common.{◌∙◌, ◌<◌, map, get_or, length, refl}
use Rattle.std.proofs.lemmas.List.{length-set}
use Rattle.target_law.proofs.Lists.{numbered_weaker}
use Rattle.target_law.proofs.Loops.{post_within, blank}
use Rattle.pacing.specs.Views.{lane_of}
use Rattle.pacing.proofs.Stored.{may_take, taking_more, places_more}
use Rattle.pacing.proofs.turns.take_all.Goals as goal

pub loop-post-init : goal.loop-post-init
loop-post-init g c =
    record {
      count = c.requires.count;
      numbers = numbered_weaker (λ k lane is. is.number) 0 (map (lane_of g.T.Target.values) c.args.lanes.now) c.requires.lanes;
      lanes = refl;
    }

pub take-requires-after_bounds : goal.take-requires-after_bounds
take-requires-after_bounds g c κs bounds =
    let t = c.args.target.now in
    let rs = g.T.Target.rules t in
    let i = c.loop-post.post-index in
    let lanes = c.loop-post.lanes in
    let p = get_or c.args.posts.now i blank in
    let proper = c.requires.posts i blank c.loop-post-test.true in
    let within : p.to < length lanes = post_within rs (g.T.Target.owns t) (g.met.T.Target.laws t) p (length lanes) c.loop-post.invariant.count proper in
    may_take rs (lane_of g.T.Target.values) c.args.clock lanes c.args.posts.now i blank c.index-lanes-post.result c.loop-post-test.true within proper c.loop-post.invariant.numbers

pub loop-post-preserved : goal.loop-post-preserved
loop-post-preserved g c =
    let t = c.args.target.now in
    let rs = g.T.Target.rules t in
    let view = lane_of g.T.Target.values in
    let i = c.loop-post.post-index in
    let posts = c.args.posts.now in
    let lanes = c.loop-post.lanes in
    let item = c.index-lanes-post.result in
    let proper = c.requires.posts i blank c.loop-post-test.true in
    let within : (get_or posts i blank).to < length lanes =
    post_within rs (g.T.Target.owns t) (g.met.T.Target.laws t) (get_or posts i blank) (length lanes) c.loop-post.invariant.count proper in
    record {
      count = length-set lanes _ c.take.new.self ∙ c.loop-post.invariant.count;
      numbers = places_more rs view c.args.clock lanes posts i blank item c.loop-post-test.true within c.take.new.self c.in_ok-take.ensures c.loop-post.invariant.numbers;
      lanes = taking_more rs view c.args.clock lanes posts i blank item c.loop-post-test.true within c.take.new.self c.in_ok-take.ensures ∙ c.loop-post.invariant.lanes;
    }
