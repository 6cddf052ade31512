use Rattle.std.proofs.Common.{◌∙◌, ◌++◌, ◌<◌, get_or, map, length}
use Rattle.std.proofs.lemmas.List.{length-set}
use Rattle.target_law.specs.Cycles.{through}
use Rattle.target_law.proofs.Loops.{blank_ask, channel_within, may_serve, chans_through, posts_more, still_chans}
use Rattle.target_law.proofs.cycles.serve_all.Goals as goal

pub serve-requires-clause-chan : goal.serve-requires-clause-chan
serve-requires-clause-chan g c =
    let t = c.args.target.now in
    let rules = g.T.Target.rules t in
    let i = c.loop-ask.ask-index in
    let number = c.channel_of-number.result in
    let e = c.channel_of-number.ensures in
    let proper = c.requires.asks i blank_ask c.loop-ask-test.true in
    let within : number < length c.loop-ask.chans = channel_within rules (g.T.Target.owns t) (g.met.T.Target.laws t) number (length c.loop-ask.chans) (get_or c.args.asks.now i blank_ask) e c.loop-ask.invariant.count proper in
    may_serve rules g.T.Target.values.chan c.loop-ask.chans c.args.asks.now i number blank_ask c.index-chans-number.result c.loop-ask-test.true e within (g.T.Target.owns t) c.loop-ask.invariant.are

pub loop-ask-preserved : goal.loop-ask-preserved
loop-ask-preserved g c =
    let t = c.args.target.now in
    let rules = g.T.Target.rules t in
    let view = g.T.Target.values.chan in
    let i = c.loop-ask.ask-index in
    let number = c.channel_of-number.result in
    let e = c.channel_of-number.ensures in
    let chans = c.loop-ask.chans in
    let new = c.serve.new.chan in
    let item = c.index-chans-number.result in
    let asks = c.args.asks.now in
    let next = c.loop-ask-test.true in
    let proper = c.requires.asks i blank_ask next in
    let within : number < length chans = channel_within rules (g.T.Target.owns t) (g.met.T.Target.laws t) number (length chans) (get_or asks i blank_ask) e c.loop-ask.invariant.count proper in
    let all = c.args.posts.now ++ (through rules (map view c.args.chans.now) asks).posts in
    record {
      count = length-set chans number new ∙ c.loop-ask.invariant.count;
      are = still_chans rules view chans asks i number blank_ask item next e within new c.in_ok-serve.ensures.chan (g.T.Target.owns t) (g.met.T.Target.laws t) proper c.loop-ask.invariant.are;
      chans = chans_through rules view chans asks i number blank_ask item next e within new c.in_ok-serve.ensures.chan ∙ c.loop-ask.invariant.chans;
      posts = posts_more rules view chans asks i number blank_ask item next e within new c.in_ok-serve.ensures.chan c.loop-ask.posts c.serve.new.out all c.in_ok-serve.ensures.posts c.loop-ask.invariant.posts;
    }
