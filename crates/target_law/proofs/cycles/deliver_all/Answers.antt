use Rattle.std.proofs.Common.{◌∙◌, ◌<◌, map, get_or, length, refl}
use Rattle.std.proofs.lemmas.List.{length-set}
use Rattle.target_law.proofs.Lists.{numbered_weaker}
use Rattle.target_law.proofs.Loops.{post_within, may_put, delivered_more, numbers_more, blank}
use Rattle.target_law.proofs.cycles.deliver_all.Goals as goal

pub loop-post-init : goal.loop-post-init
loop-post-init g c =
    record {
      count = c.requires.count;
      numbers = numbered_weaker (λ k core is. is.number) 0 (map g.T.Target.values.core c.args.cores.now) c.requires.cores;
      cores = refl;
    }

pub put-requires : goal.put-requires
put-requires g c =
    let t = c.args.target.now in
    let rules = g.T.Target.rules t in
    let i = c.loop-post.post-index in
    let proper = c.requires.posts i blank c.loop-post-test.true in
    let within : (get_or c.args.posts.now i blank).to < length c.loop-post.cores =
    post_within rules (g.T.Target.owns t) (g.met.T.Target.laws t) (get_or c.args.posts.now i blank) (length c.loop-post.cores) c.loop-post.invariant.count proper in
    may_put rules g.T.Target.values.core c.loop-post.cores c.args.posts.now i blank c.index-cores-post.result c.loop-post-test.true within proper c.loop-post.invariant.numbers

pub loop-post-preserved : goal.loop-post-preserved
loop-post-preserved g c =
    let t = c.args.target.now in
    let rules = g.T.Target.rules t in
    let view = g.T.Target.values.core in
    let i = c.loop-post.post-index in
    let posts = c.args.posts.now in
    let cores = c.loop-post.cores in
    let item = c.index-cores-post.result in
    let proper = c.requires.posts i blank c.loop-post-test.true in
    let within : (get_or posts i blank).to < length cores = post_within rules (g.T.Target.owns t) (g.met.T.Target.laws t) (get_or posts i blank) (length cores) c.loop-post.invariant.count proper in
    record {
      count = length-set cores _ c.put.new.core ∙ c.loop-post.invariant.count;
      numbers = numbers_more rules view cores posts i blank item c.loop-post-test.true within c.put.new.core c.in_ok-put.ensures.core c.loop-post.invariant.numbers;
      cores = delivered_more rules view cores posts i blank item c.loop-post-test.true within c.put.new.core c.in_ok-put.ensures.core ∙ c.loop-post.invariant.cores;
    }
