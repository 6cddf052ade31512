use Rattle.std.proofs.Common.{◌≤◌, ◌<◌, length, sym, ap, subst, arith}
use Rattle.std.specs.List.{AllByRecursion as Each}
use Rattle.target_law.specs.Proper.{IsPostTo}
use Rattle.drive_script.specs.Open.{IsLaneOf}
use Rattle.drive_script.specs.Views.{lane_of, world_of}
use Rattle.drive_script.specs.Worlds.{LaneValue, lane_taking, stepped}
use Rattle.drive_script.proofs.Opened.{next_of}
use Rattle.drive_script.proofs.Places.{stored_past, numbered_stored, stored_changed}
use Rattle.drive_script.proofs.worlds.World.take.Goals as goal

pub returns-then-place-len : goal.returns-then-place-len
unfolding stepped
returns-then-place-len g c =
    let rules = g.T.Target.rules c.args.target.now in
    let w = world_of g.T.Target.values c.args.self.now in
    let lanes = c.args.self.now.lanes in
    let past : length lanes.items ≤ c.args.place = omega (arith, lanes.ok.0, c.len.ensures, c.if-place-len.true) in
    sym (ap (λ ls. record w { lanes = ls }) (stored_past (lane_of g.T.Target.values) c.args.place lanes.items (λ (lane : LaneValue g.T.Target.Inner). lane_taking rules lane.posts lane) past))

pub take-requires-after_bounds : goal.take-requires-after_bounds
take-requires-after_bounds g c κs bounds =
    let t = c.args.target.now in
    let rules = g.T.Target.rules t in
    let owns = g.T.Target.owns t in
    let lanes = c.args.self.now.lanes in
    let within : c.args.place < length lanes.items = omega (arith, lanes.ok.0, c.len.ensures, c.if-place-len.false) in
    let is = numbered_stored (lane_of g.T.Target.values) c.args.place lanes.items c.index_mut.result.now within c.index_mut.ensures.value (IsLaneOf rules owns c.args.self.now.end) c.requires.lanes in
    next_of rules (rules.core_number (g.T.Target.values.core c.index_mut.result.now.core).inner) c.index_mut.result.now.posts.items
    (subst (λ n. Each (IsPostTo rules n) c.index_mut.result.now.posts.items) (sym is.core.number) is.posts)

pub returns : goal.returns
unfolding stepped
returns g c =
    let rules = g.T.Target.rules c.args.target.now in
    let w = world_of g.T.Target.values c.args.self.now in
    let lanes = c.args.self.now.lanes in
    let within : c.args.place < length lanes.items = omega (arith, lanes.ok.0, c.len.ensures, c.if-place-len.false) in
    ap (λ ls. record w { lanes = ls })
    (stored_changed (lane_of g.T.Target.values) c.args.place lanes.items c.index_mut.result.now within c.index_mut.ensures.value
    (λ (lane : LaneValue g.T.Target.Inner). lane_taking rules lane.posts lane) c.take.new.self c.in_ok-take.ensures)
