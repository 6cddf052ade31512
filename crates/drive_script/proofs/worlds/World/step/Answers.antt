use Rattle.std.proofs.Common.{sym, subst}
use Rattle.slack_base.specs.declared.steps.Step.TheVariants.{Tick, Serve, Take}
use Rattle.drive_script.specs.Open.{IsOpen}
use Rattle.drive_script.specs.Views.{world_of}
use Rattle.drive_script.proofs.Opened.{open_stepped}
use Rattle.drive_script.proofs.worlds.World.step.Goals as goal

pub returns-in_ok-tick-in-Tick-clause-open : goal.returns-in_ok-tick-in-Tick-clause-open
returns-in_ok-tick-in-Tick-clause-open g c =
    let t = c.args.target.now in
    let rules = g.T.Target.rules t in
    let owns = g.T.Target.owns t in
    subst (IsOpen rules owns) (sym c.in_ok-tick-in-Tick.ensures) (open_stepped rules owns (g.met.T.Target.laws t) (Tick c.in-Tick.core) (world_of g.T.Target.values c.args.self.now) c.requires)

pub returns-in_ok-serve-in-Serve-clause-open : goal.returns-in_ok-serve-in-Serve-clause-open
returns-in_ok-serve-in-Serve-clause-open g c =
    let t = c.args.target.now in
    let rules = g.T.Target.rules t in
    let owns = g.T.Target.owns t in
    subst (IsOpen rules owns) (sym c.in_ok-serve-in-Serve.ensures) (open_stepped rules owns (g.met.T.Target.laws t) (Serve c.in-Serve.core) (world_of g.T.Target.values c.args.self.now) c.requires)

pub returns-in_ok-take-in-Take-clause-open : goal.returns-in_ok-take-in-Take-clause-open
returns-in_ok-take-in-Take-clause-open g c =
    let t = c.args.target.now in
    let rules = g.T.Target.rules t in
    let owns = g.T.Target.owns t in
    subst (IsOpen rules owns) (sym c.in_ok-take-in-Take.ensures) (open_stepped rules owns (g.met.T.Target.laws t) (Take c.in-Take.core) (world_of g.T.Target.values c.args.self.now) c.requires)
