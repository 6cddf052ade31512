use Rattle.std.proofs.Common.{◌≤◌, ◌<◌, length, sym, ap, arith}
use Rattle.target_law.proofs.Loops.{core_at}
use Rattle.drive_script.specs.Open.{IsLaneOf}
use Rattle.drive_script.specs.Views.{lane_of, world_of}
use Rattle.drive_script.specs.Worlds.{lane_ticked, stepped}
use Rattle.drive_script.proofs.Places.{stored_past, numbered_stored, stored_changed}
use Rattle.drive_script.proofs.worlds.World.tick.Goals as goal

pub returns-then-place-len : goal.returns-then-place-len
unfolding stepped
returns-then-place-len g c =
    let w = world_of g.T.Target.values c.args.self.now in
    let lanes = c.args.self.now.lanes in
    let past : length lanes.items ≤ c.args.place = omega (arith, lanes.ok.0, c.len.ensures, c.if-place-len.true) in
    sym (ap (λ ls. record w { lanes = ls }) (stored_past (lane_of g.T.Target.values) c.args.place lanes.items (lane_ticked (g.T.Target.rules c.args.target.now) c.args.self.now.end) past))

pub tick-requires-clause-core : goal.tick-requires-clause-core
tick-requires-clause-core g c κs bounds =
    let t = c.args.target.now in
    let rules = g.T.Target.rules t in
    let owns = g.T.Target.owns t in
    let lanes = c.args.self.now.lanes in
    let within : c.args.place < length lanes.items = omega (arith, lanes.ok.0, c.len.ensures, c.if-place-len.false) in
    core_at rules owns c.args.place (g.T.Target.values.core c.index_mut.result.now.core)
    (numbered_stored (lane_of g.T.Target.values) c.args.place lanes.items c.index_mut.result.now within c.index_mut.ensures.value (IsLaneOf rules owns c.args.self.now.end) c.requires.lanes).core

pub returns : goal.returns
unfolding stepped
returns g c =
    let t = c.args.target.now in
    let w = world_of g.T.Target.values c.args.self.now in
    let lanes = c.args.self.now.lanes in
    let within : c.args.place < length lanes.items = omega (arith, lanes.ok.0, c.len.ensures, c.if-place-len.false) in
    ap (λ ls. record w { lanes = ls })
    (stored_changed (lane_of g.T.Target.values) c.args.place lanes.items c.index_mut.result.now within c.index_mut.ensures.value
    (lane_ticked (g.T.Target.rules t) c.args.self.now.end) c.tick.new.self c.in_ok-tick.ensures)
