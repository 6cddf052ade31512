use Rattle.std.proofs.Common.{◌≡◌, ◌∙◌, ◌+◌, length, map, sym, ap, subst}
use Rattle.std.specs.Vec.{with_items}
use Rattle.target_law.specs.Numbered.{AllNumbered}
use Rattle.target_law.proofs.Stored.{read_back}
use Rattle.drive_script.proofs.Places.{given_back}
use Rattle.pacing.specs.Open.{IsLaneOf}
use Rattle.pacing.specs.Pieces.{IsPiece}
use Rattle.pacing.specs.Views.{lane_of, underway_of}
use Rattle.pacing.proofs.Stored.{lent_cores, ticked_length, taken_length, own_asks, now_are, own_posts, whole_piece}
use Rattle.pacing.proofs.underway.Underway.piece.Goals as goal

pub tick_all-requires-clause-cores : goal.tick_all-requires-clause-cores
tick_all-requires-clause-cores g c κs bounds =
    let t = c.args.target.now in
    lent_cores (g.T.Target.rules t) (g.T.Target.owns t) (lane_of g.T.Target.values) c.args.self.now.lanes.items c.as_mut_slice.result.now c.as_mut_slice.ensures.value c.requires.open.lanes

pub serve_all-requires-clause-asks : goal.serve_all-requires-clause-asks
serve_all-requires-clause-asks g c κs bounds =
    let t = c.args.target.now in
    let s = c.args.self.now in
    let rs = g.T.Target.rules t in
    let V = lane_of g.T.Target.values in
    let count = ticked_length rs V (λ lane. lane.asks) s.clock c.args.len s.lanes.items c.as_mut_slice.result.now c.tick_all.new.lanes c.as_mut_slice.ensures.value c.in_ok-tick_all.ensures in
    let back = given_back s.lanes.len s.lanes.items c.tick_all.new.lanes s.lanes.ok.0 count in
    own_asks rs (g.T.Target.owns t) ((g.met.T.Target g.world.𝓛 g.world.𝓜 g.world.𝓡 ((λ s x. x), (λ x. x), (λ x. x), λ x. x)).laws t) V (λ lane. lane.asks) g.T.Target.values.chan s.clock c.args.len s.lanes.items s.chans.items s.served s.clashes
    c.requires.top c.requires.open c.as_mut_slice.result.now c.tick_all.new.lanes c.as_slice.result.now c.as_mut_slice.ensures.value c.in_ok-tick_all.ensures (c.as_slice.ensures.value ∙ back)
    c.line_up.new.asks.items c.as_slice-2.result.now c.in_ok-line_up.ensures.same c.in_ok-line_up.ensures.sorted c.as_slice-2.ensures.value

pub take_all-requires-clause-lanes : goal.take_all-requires-clause-lanes
take_all-requires-clause-lanes g c κs bounds =
    let t = c.args.target.now in
    let s = c.args.self.now in
    let rs = g.T.Target.rules t in
    let V = lane_of g.T.Target.values in
    let count = ticked_length rs V (λ lane. lane.asks) s.clock c.args.len s.lanes.items c.as_mut_slice.result.now c.tick_all.new.lanes c.as_mut_slice.ensures.value c.in_ok-tick_all.ensures in
    let back = given_back s.lanes.len s.lanes.items c.tick_all.new.lanes s.lanes.ok.0 count in
    subst (λ xs. AllNumbered (IsLaneOf rs (g.T.Target.owns t)) 0 (map V xs)) (sym (c.as_mut_slice-2.ensures.value ∙ back))
    (now_are rs (g.T.Target.owns t) ((g.met.T.Target g.world.𝓛 g.world.𝓜 g.world.𝓡 ((λ s x. x), (λ x. x), (λ x. x), λ x. x)).laws t) V (λ lane. lane.asks) g.T.Target.values.chan s.clock c.args.len s.lanes.items s.chans.items s.served s.clashes
    c.requires.top c.requires.open c.as_mut_slice.result.now c.tick_all.new.lanes c.as_slice.result.now c.as_mut_slice.ensures.value c.in_ok-tick_all.ensures (c.as_slice.ensures.value ∙ back)
    c.line_up.new.asks.items c.as_slice-2.result.now c.in_ok-line_up.ensures.same c.in_ok-line_up.ensures.sorted c.as_slice-2.ensures.value)

pub take_all-requires-clause-posts : goal.take_all-requires-clause-posts
take_all-requires-clause-posts g c κs bounds =
    let t = c.args.target.now in
    let s = c.args.self.now in
    let rs = g.T.Target.rules t in
    let V = lane_of g.T.Target.values in
    let count = ticked_length rs V (λ lane. lane.asks) s.clock c.args.len s.lanes.items c.as_mut_slice.result.now c.tick_all.new.lanes c.as_mut_slice.ensures.value c.in_ok-tick_all.ensures in
    let back = given_back s.lanes.len s.lanes.items c.tick_all.new.lanes s.lanes.ok.0 count in
    own_posts rs (g.T.Target.owns t) ((g.met.T.Target g.world.𝓛 g.world.𝓜 g.world.𝓡 ((λ s x. x), (λ x. x), (λ x. x), λ x. x)).laws t) V (λ lane. lane.asks) g.T.Target.values.chan s.clock c.args.len s.lanes.items s.chans.items s.served s.clashes
    c.requires.top c.requires.open c.as_mut_slice.result.now c.tick_all.new.lanes c.as_slice.result.now c.as_mut_slice.ensures.value c.in_ok-tick_all.ensures (c.as_slice.ensures.value ∙ back)
    c.line_up.new.asks.items c.as_slice-2.result.now c.in_ok-line_up.ensures.same c.in_ok-line_up.ensures.sorted c.as_slice-2.ensures.value
    c.as_slice-3.result.now (read_back c.clear.new.self c.serve_all.new.posts _ c.as_slice-3.result.now c.clear.ensures c.in_ok-serve_all.ensures.posts c.as_slice-3.ensures)

pub returns-clause-piece : goal.returns-clause-piece
returns-clause-piece g c =
    let t = c.args.target.now in
    let s = c.args.self.now in
    let rs = g.T.Target.rules t in
    let V = lane_of g.T.Target.values in
    let count = ticked_length rs V (λ lane. lane.asks) s.clock c.args.len s.lanes.items c.as_mut_slice.result.now c.tick_all.new.lanes c.as_mut_slice.ensures.value c.in_ok-tick_all.ensures in
    let back = given_back s.lanes.len s.lanes.items c.tick_all.new.lanes s.lanes.ok.0 count in
    let chan = g.T.Target.values.chan in
    let clock = s.clock + c.args.len in
    let ticked = with_items s.lanes c.tick_all.new.lanes in
    let last = c.take_all.new.lanes in
    let again = c.as_mut_slice-2.ensures.value in
    let still : length last ≡ length ticked.items = taken_length rs V clock c.as_slice-3.result.now c.as_mut_slice-2.result.now last c.in_ok-take_all.ensures ∙ ap length again in
    let back2 = given_back ticked.len ticked.items last ticked.ok.0 still in
    subst (λ xs. IsPiece rs c.args.len (underway_of g.T.Target.values s)
    (record { clock = clock; lanes = map V xs; chans = map chan c.serve_all.new.chans.items; served = c.serve_all.new.served; clashes = c.serve_all.new.clashes })) (sym back2)
    (whole_piece rs (g.T.Target.owns t) ((g.met.T.Target g.world.𝓛 g.world.𝓜 g.world.𝓡 ((λ s x. x), (λ x. x), (λ x. x), λ x. x)).laws t) V (λ lane. lane.asks) g.T.Target.values.chan s.clock c.args.len s.lanes.items s.chans.items s.served s.clashes
    c.requires.top c.requires.open c.as_mut_slice.result.now c.tick_all.new.lanes c.as_slice.result.now c.as_mut_slice.ensures.value c.in_ok-tick_all.ensures (c.as_slice.ensures.value ∙ back)
    c.line_up.new.asks.items c.as_slice-2.result.now c.in_ok-line_up.ensures.same c.in_ok-line_up.ensures.sorted c.as_slice-2.ensures.value
    c.as_slice-3.result.now (read_back c.clear.new.self c.serve_all.new.posts _ c.as_slice-3.result.now c.clear.ensures c.in_ok-serve_all.ensures.posts c.as_slice-3.ensures)
    c.as_mut_slice-2.result.now last (again ∙ back) c.in_ok-take_all.ensures
    c.serve_all.new.chans.items c.in_ok-serve_all.ensures.chans c.serve_all.new.served c.in_ok-serve_all.ensures.served c.serve_all.new.clashes c.in_ok-serve_all.ensures.clashes)
