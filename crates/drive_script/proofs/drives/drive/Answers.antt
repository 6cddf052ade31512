use Rattle.std.proofs.Common.{◌∙◌, sym, subst}
use Rattle.target_law.specs.Proper.{IsProper}
use Rattle.target_law.specs.Views.{state_of}
use Rattle.drive_script.specs.Open.{IsOpen}
use Rattle.drive_script.specs.Views.{world_of}
use Rattle.drive_script.proofs.Closed.{closed_proper}
use Rattle.drive_script.proofs.Driven.{script_of, drift_of, clash_each, few_lists, exact_of}
use Rattle.drive_script.proofs.Opened.{open_opened}
use Rattle.drive_script.proofs.drives.drive.Goals as goal

pub step_all-requires-after_bounds : goal.step_all-requires-after_bounds
step_all-requires-after_bounds g c κs bounds =
    let t = c.args.target.now in
    let rules = g.T.Target.rules t in
    let owns = g.T.Target.owns t in
    subst (IsOpen rules owns) (sym c.in_ok-world.ensures.world)
    (open_opened rules owns (g.met.T.Target.laws t) (state_of g.T.Target.values c.args.state) c.args.len c.requires.proper c.requires.top)

pub scan-requires-clause-clashes : goal.scan-requires-clause-clashes
scan-requires-clause-clashes g c κs bounds =
    let t = c.args.target.now in
    let values = g.T.Target.values in
    clash_each (g.T.Target.rules t) (state_of values c.args.state) c.args.len c.args.steps.now c.as_slice.result.now
    (world_of values c.in_ok-world.world) (world_of values c.step_all.new.world) (world_of values c.finish.new.world) c.in_ok-end.drift (state_of values c.in_ok-end.end)
    c.as_slice.ensures c.in_ok-world.ensures.world c.in_ok-step_all.ensures.world c.in_ok-finish.ensures.world c.in_ok-end.ensures.drift c.in_ok-end.ensures.end
    (g.T.Target.owns t) (g.met.T.Target.laws t) c.requires.proper c.requires.top

pub scan-requires-clause-cores : goal.scan-requires-clause-cores
scan-requires-clause-cores g c κs bounds =
    let t = c.args.target.now in
    let values = g.T.Target.values in
    few_lists (g.T.Target.rules t) (state_of values c.args.state) c.args.len c.args.steps.now c.as_slice.result.now
    (world_of values c.in_ok-world.world) (world_of values c.step_all.new.world) (world_of values c.finish.new.world) c.in_ok-end.drift (state_of values c.in_ok-end.end)
    c.as_slice.ensures c.in_ok-world.ensures.world c.in_ok-step_all.ensures.world c.in_ok-finish.ensures.world c.in_ok-end.ensures.drift c.in_ok-end.ensures.end
    (g.T.Target.owns t) (g.met.T.Target.laws t) c.requires.proper c.requires.top _ c.in_ok-world.ensures.few c.in_ok-finish.ensures.open

pub returns-clause-script : goal.returns-clause-script
returns-clause-script g c =
    let t = c.args.target.now in
    let values = g.T.Target.values in
    script_of (g.T.Target.rules t) (state_of values c.args.state) c.args.len c.args.steps.now c.as_slice.result.now
    (world_of values c.in_ok-world.world) (world_of values c.step_all.new.world) (world_of values c.finish.new.world) c.in_ok-end.drift (state_of values c.in_ok-end.end)
    c.as_slice.ensures c.in_ok-world.ensures.world c.in_ok-step_all.ensures.world c.in_ok-finish.ensures.world c.in_ok-end.ensures.drift c.in_ok-end.ensures.end

pub returns-clause-drift : goal.returns-clause-drift
returns-clause-drift g c =
    let t = c.args.target.now in
    let values = g.T.Target.values in
    drift_of (g.T.Target.rules t) (state_of values c.args.state) c.args.len c.args.steps.now c.as_slice.result.now
    (world_of values c.in_ok-world.world) (world_of values c.step_all.new.world) (world_of values c.finish.new.world) c.in_ok-end.drift (state_of values c.in_ok-end.end)
    c.as_slice.ensures c.in_ok-world.ensures.world c.in_ok-step_all.ensures.world c.in_ok-finish.ensures.world c.in_ok-end.ensures.drift c.in_ok-end.ensures.end
    (g.T.Target.owns t) (g.met.T.Target.laws t) c.requires.proper c.requires.top

pub returns-clause-proper : goal.returns-clause-proper
returns-clause-proper g c =
    let t = c.args.target.now in
    let rules = g.T.Target.rules t in
    let owns = g.T.Target.owns t in
    subst (IsProper rules owns) (sym c.in_ok-end.ensures.end)
    (closed_proper rules owns (g.met.T.Target.laws t) (world_of g.T.Target.values c.finish.new.world) c.in_ok-finish.ensures.open)

pub returns-clause-exact : goal.returns-clause-exact
returns-clause-exact g c =
    let t = c.args.target.now in
    let values = g.T.Target.values in
    λ quiet. exact_of (g.T.Target.rules t) (state_of values c.args.state) c.args.len c.args.steps.now c.as_slice.result.now
    (world_of values c.in_ok-world.world) (world_of values c.step_all.new.world) (world_of values c.finish.new.world) c.in_ok-end.drift (state_of values c.in_ok-end.end)
    c.as_slice.ensures c.in_ok-world.ensures.world c.in_ok-step_all.ensures.world c.in_ok-finish.ensures.world c.in_ok-end.ensures.drift c.in_ok-end.ensures.end
    (g.T.Target.owns t) (g.met.T.Target.laws t) c.requires.proper c.requires.top (sym c.in_ok-seen.ensures ∙ quiet)
