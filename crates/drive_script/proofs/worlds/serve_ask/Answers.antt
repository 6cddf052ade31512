use Rattle.std.proofs.Common.{◌∙◌, ◌++◌, ◌∷◌, [], length, map, sym, ap, subst, None}
use Rattle.std.proofs.lemmas.List.{append-nil}
use Rattle.target_law.specs.Cycles.{changed_at, seen_at}
use Rattle.target_law.specs.Proper.{IsChanOf}
use Rattle.target_law.proofs.Loops.{channel_within}
use Rattle.drive_script.proofs.Places.{numbered_stored, stored_changed, stored_seen}
use Rattle.drive_script.proofs.worlds.serve_ask.Goals as goal

pub clash-clash-requires-clause-chan : goal.clash-clash-requires-clause-chan
clash-clash-requires-clause-chan g c =
    let t = c.args.target.now in
    let rules = g.T.Target.rules t in
    let owns = g.T.Target.owns t in
    let chans = c.args.chans.now.items in
    let number = c.channel_of-number.result in
    let within = channel_within rules owns (g.met.T.Target.laws t) number (length chans) c.args.ask.now c.channel_of-number.ensures c.requires.count c.requires.ask in
    subst (λ n. IsChanOf rules owns n (g.T.Target.values.chan c.index.result.now)) c.channel_of-number.ensures
    (numbered_stored g.T.Target.values.chan number chans c.index.result.now within c.index.ensures (IsChanOf rules owns) c.requires.chans)

pub serve-requires-clause-chan : goal.serve-requires-clause-chan
serve-requires-clause-chan g c =
    let t = c.args.target.now in
    let rules = g.T.Target.rules t in
    let owns = g.T.Target.owns t in
    let chans = c.args.chans.now.items in
    let number = c.channel_of-number.result in
    let within = channel_within rules owns (g.met.T.Target.laws t) number (length chans) c.args.ask.now c.channel_of-number.ensures c.requires.count c.requires.ask in
    subst (λ n. IsChanOf rules owns n (g.T.Target.values.chan c.index_mut.result.now)) c.channel_of-number.ensures
    (numbered_stored g.T.Target.values.chan number chans c.index_mut.result.now within c.index_mut.ensures.value (IsChanOf rules owns) c.requires.chans)

pub returns-clause-chans : goal.returns-clause-chans
returns-clause-chans g c =
    let t = c.args.target.now in
    let rules = g.T.Target.rules t in
    let owns = g.T.Target.owns t in
    let view = g.T.Target.values.chan in
    let chans = c.args.chans.now.items in
    let number = c.channel_of-number.result in
    let within = channel_within rules owns (g.met.T.Target.laws t) number (length chans) c.args.ask.now c.channel_of-number.ensures c.requires.count c.requires.ask in
    let f = λ (chan : g.T.Target.Channel). (rules.serve chan c.args.ask.now).0 in
    stored_changed view number chans c.index_mut.result.now within c.index_mut.ensures.value f c.serve.new.chan c.in_ok-serve.ensures.chan
    ∙ ap (λ n. changed_at n f (map view chans)) c.channel_of-number.ensures

pub returns-clause-clashes : goal.returns-clause-clashes
returns-clause-clashes g c =
    let t = c.args.target.now in
    let rules = g.T.Target.rules t in
    let owns = g.T.Target.owns t in
    let view = g.T.Target.values.chan in
    let chans = c.args.chans.now.items in
    let number = c.channel_of-number.result in
    let within = channel_within rules owns (g.met.T.Target.laws t) number (length chans) c.args.ask.now c.channel_of-number.ensures c.requires.count c.requires.ask in
    let f = λ (chan : g.T.Target.Channel). rules.clash chan c.args.ask.now in
    c.in_ok-push.ensures.ok
    ∙ ap (λ x. c.args.clashes.now ++ x ∷ [])
    (c.clash-clash.ensures ∙ sym (stored_seen view number chans c.index.result.now within c.index.ensures f None) ∙ ap (λ n. seen_at n f None (map view chans)) c.channel_of-number.ensures)

pub returns-clause-clash : goal.returns-clause-clash
returns-clause-clash g c =
    let t = c.args.target.now in
    let rules = g.T.Target.rules t in
    let owns = g.T.Target.owns t in
    let view = g.T.Target.values.chan in
    let chans = c.args.chans.now.items in
    let number = c.channel_of-number.result in
    let within = channel_within rules owns (g.met.T.Target.laws t) number (length chans) c.args.ask.now c.channel_of-number.ensures c.requires.count c.requires.ask in
    let f = λ (chan : g.T.Target.Channel). rules.clash chan c.args.ask.now in
    ap (λ x. x ∷ [])
    (sym (c.clash-clash.ensures ∙ sym (stored_seen view number chans c.index.result.now within c.index.ensures f None) ∙ ap (λ n. seen_at n f None (map view chans)) c.channel_of-number.ensures))

pub returns-clause-posts : goal.returns-clause-posts
returns-clause-posts g c =
    let t = c.args.target.now in
    let rules = g.T.Target.rules t in
    let owns = g.T.Target.owns t in
    let view = g.T.Target.values.chan in
    let chans = c.args.chans.now.items in
    let number = c.channel_of-number.result in
    let within = channel_within rules owns (g.met.T.Target.laws t) number (length chans) c.args.ask.now c.channel_of-number.ensures c.requires.count c.requires.ask in
    let f = λ (chan : g.T.Target.Channel). (rules.serve chan c.args.ask.now).1 in
    c.in_ok-serve.ensures.posts
    ∙ ap (λ ps. c.args.posts.now ++ ps)
    (sym (stored_seen view number chans c.index_mut.result.now within c.index_mut.ensures.value f []) ∙ ap (λ n. seen_at n f [] (map view chans)) c.channel_of-number.ensures ∙ sym (append-nil _))
