use Rattle.std.proofs.Common.{◌≡◌, ◌∙◌, ◌+◌, ◌++◌, ◌∷◌, [], map, take, length, get_or, sym, ap, append_assoc}
use Rattle.std.proofs.lemmas.List.{length-map, take_more}
use Rattle.target_law.proofs.Loops.{blank_ask}
use Rattle.target_law.proofs.Serving.{length-through}
use Rattle.pacing.proofs.Stored.{chans_more, clashes_more, posts_more, chans_still}
use Rattle.pacing.proofs.turns.serve_all.Goals as goal

pub loop-ask-preserved : goal.loop-ask-preserved
loop-ask-preserved g c =
    let t = c.args.target.now in
    let rs = g.T.Target.rules t in
    let view = g.T.Target.values.chan in
    let i = c.loop-ask.ask-index in
    let asks = c.args.asks.now in
    let x = get_or asks i blank_ask in
    let first = map view c.args.chans.now.items in
    let now = map view c.loop-ask.chans.items in
    let new = map view c.serve_ask.new.chans.items in
    let is = c.loop-ask.invariant in
    let proper = c.requires.asks i blank_ask c.loop-ask-test.true in
    let more : take (i + 1) asks ≡ take i asks ++ x ∷ [] = take_more asks i blank_ask c.loop-ask-test.true in
    let e = c.in_ok-serve_ask.ensures.chans in
    record {
      count = sym (length-map c.serve_ask.new.chans.items view) ∙ ap length e ∙ length-through rs now (x ∷ []) ∙ length-map c.loop-ask.chans.items view ∙ is.count;
      are = chans_still rs first now new asks i x more is.chans (g.T.Target.owns t) (g.met.T.Target.laws t) proper is.are e;
      chans = chans_more rs first now new asks i x more is.chans e;
      served = c.in_ok-push.ensures.ok ∙ ap (λ xs. xs ++ x ∷ []) is.served ∙ append_assoc c.args.served.now (take i asks) (x ∷ []) ∙ ap (λ xs. c.args.served.now ++ xs) (sym more);
      clashes = clashes_more rs first now new asks i x more is.chans c.args.clashes.now c.loop-ask.clashes c.serve_ask.new.clashes is.clashes c.in_ok-serve_ask.ensures.clashes;
      posts = posts_more rs first now new asks i x more is.chans c.args.posts.now c.loop-ask.posts c.serve_ask.new.posts is.posts c.in_ok-serve_ask.ensures.posts;
    }
