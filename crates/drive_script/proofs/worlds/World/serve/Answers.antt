use Rattle.std.proofs.Common.{◌≡◌, ◌≤◌, ◌<◌, ◌∙◌, length, map, sym, ap, arith, Some, None, rules}
use Rattle.std.proofs.lemmas.List.{length-map, length-set}
use Rattle.target_law.proofs.Stored.{read_back}
use Rattle.drive_script.specs.Views.{lane_of, world_of}
use Rattle.drive_script.specs.Worlds.{LaneValue, oldest, stepped}
use Rattle.drive_script.proofs.Opened.{oldest_of, posts_inside}
use Rattle.drive_script.proofs.Places.{stored_none, younger_same}
use Rattle.drive_script.proofs.Served.{serving_past, serving_none, serving_some, oldest_here}
use Rattle.drive_script.proofs.worlds.World.serve.Goals as goal

pub returns-then-place-len : goal.returns-then-place-len
unfolding stepped
returns-then-place-len g c =
    let view = lane_of g.T.Target.values in
    let s = c.args.self.now in
    let past : length s.lanes.items ≤ c.args.place = omega (arith, s.lanes.ok.0, c.len.ensures, c.if-place-len.true) in
    serving_past (g.T.Target.rules c.args.target.now) view s.end c.args.place s.lanes.items (map g.T.Target.values.chan s.chans.items) s.served s.clashes
    (stored_none view c.args.place s.lanes.items (λ (lane : LaneValue g.T.Target.Inner). oldest lane.asks) None past)

pub returns-in_default : goal.returns-in_default
unfolding stepped
returns-in_default g c =
    let view = lane_of g.T.Target.values in
    let s = c.args.self.now in
    let d = c.index_mut.result.now in
    let within : c.args.place < length s.lanes.items = omega (arith, s.lanes.ok.0, c.len.ensures, c.if-place-len.false) in
    let none : c.next_ask.result ≡ None = search rules in
    let first = sym c.next_ask.ensures.ask ∙ none in
    let same : c.next_ask.new.queue.items ≡ d.asks.items = c.next_ask.ensures.queue ∙ younger_same d.asks.items first in
    serving_none (g.T.Target.rules c.args.target.now) view s.end c.args.place s.lanes.items (map g.T.Target.values.chan s.chans.items) s.served s.clashes
    d (record d { asks = c.next_ask.new.queue }) within c.index_mut.ensures.value first (ap (λ xs. record (view d) { asks = xs }) same)

pub serve_ask-requires-clause-ask : goal.serve_ask-requires-clause-ask
serve_ask-requires-clause-ask g c κs bounds =
    let t = c.args.target.now in
    let view = lane_of g.T.Target.values in
    let s = c.args.self.now in
    let d = c.index_mut.result.now in
    let x = c.in-Some.ask in
    let within : c.args.place < length s.lanes.items = omega (arith, s.lanes.ok.0, c.len.ensures, c.if-place-len.false) in
    let first = oldest_here (g.T.Target.rules t) view s.end c.args.place s.lanes.items (map g.T.Target.values.chan s.chans.items) s.served s.clashes
    d d within c.index_mut.ensures.value (Some x) (sym c.next_ask.ensures.ask ∙ c.in-Some.is) in
    (oldest_of (g.T.Target.rules t) (g.T.Target.owns t) (g.met.T.Target.laws t) s.end c.args.place (map view s.lanes.items) x c.requires.lanes first).proper

pub post_all-requires-after_bounds : goal.post_all-requires-after_bounds
post_all-requires-after_bounds g c κs bounds =
    let t = c.args.target.now in
    let rs = g.T.Target.rules t in
    let view = lane_of g.T.Target.values in
    let s = c.args.self.now in
    let d = c.index_mut.result.now in
    let x = c.in-Some.ask in
    let within : c.args.place < length s.lanes.items = omega (arith, s.lanes.ok.0, c.len.ensures, c.if-place-len.false) in
    let first = oldest_here rs view s.end c.args.place s.lanes.items (map g.T.Target.values.chan s.chans.items) s.served s.clashes
    d d within c.index_mut.ensures.value (Some x) (sym c.next_ask.ensures.ask ∙ c.in-Some.is) in
    let own = oldest_of rs (g.T.Target.owns t) (g.met.T.Target.laws t) s.end c.args.place (map view s.lanes.items) x c.requires.lanes first in
    posts_inside rs (g.T.Target.owns t) (g.met.T.Target.laws t) (world_of g.T.Target.values s) x c.requires own.proper _
    (length-set s.lanes.items _ _ ∙ sym (length-map s.lanes.items view) ∙ c.requires.count)
    c.as_slice.result.now (read_back c.clear.new.self c.serve_ask.new.posts _ c.as_slice.result.now c.clear.ensures c.in_ok-serve_ask.ensures.posts c.as_slice.ensures)

pub returns : goal.returns
unfolding stepped
returns g c =
    let rs = g.T.Target.rules c.args.target.now in
    let view = lane_of g.T.Target.values in
    let s = c.args.self.now in
    let d = c.index_mut.result.now in
    let x = c.in-Some.ask in
    let within : c.args.place < length s.lanes.items = omega (arith, s.lanes.ok.0, c.len.ensures, c.if-place-len.false) in
    serving_some rs view s.end c.args.place s.lanes.items (map g.T.Target.values.chan s.chans.items) s.served s.clashes
    d (record d { asks = c.next_ask.new.queue }) within c.index_mut.ensures.value x (sym c.next_ask.ensures.ask ∙ c.in-Some.is)
    (ap (λ xs. record (view d) { asks = xs }) c.next_ask.ensures.queue)
    c.as_slice.result.now (read_back c.clear.new.self c.serve_ask.new.posts _ c.as_slice.result.now c.clear.ensures c.in_ok-serve_ask.ensures.posts c.as_slice.ensures)
    c.post_all.new.lanes.items c.in_ok-post_all.ensures
    (map g.T.Target.values.chan c.serve_ask.new.chans.items) c.in_ok-serve_ask.ensures.chans
    c.serve_ask.new.clashes c.in_ok-serve_ask.ensures.clashes
    c.push.new.self c.in_ok-push.ensures.ok
