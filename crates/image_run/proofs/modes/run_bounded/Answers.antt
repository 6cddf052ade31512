use Rattle.std.proofs.Common.{◌≡◌, ◌+◌, ◌≤◌, sum_by}
use Rattle.std.proofs.lemmas.Result.{IfOk-weaker}
use Rattle.io_edge.specs.Holds.{Holds}
use Rattle.target_law.specs.Views.{state_of}
use Rattle.drift_run.specs.BoundedRuns.{IsHolding, IsBoundedRun}
use Rattle.target_law.specs.Ticks.{cycles_of}
use Rattle.image_run.proofs.Intervals.{run_cycles}
use Rattle.image_run.proofs.modes.run_bounded.Goals as goal

pub returns-clause-counted : goal.returns-clause-counted
returns-clause-counted g c =
    let rules = g.T.Target.rules c.args.target.now in
    let values = g.T.Target.values in
    let holds : Holds = record { may = g.G.Gate.may_hold c.args.gate.now; must = g.G.Gate.must_hold c.args.gate.now } in
    let s = state_of values c.args.state in
    IfOk-weaker _ (λ r. IsBoundedRun rules holds c.args.slack c.args.interval c.args.limit s r.notes (state_of values r.end)) (λ r. c.args.state.clock + sum_by cycles_of r.notes ≡ r.end.clock)
    (λ r is. (run_cycles rules (IsHolding rules holds c.args.slack) c.args.interval c.args.limit s is).cycles) c.bounded_run.ensures.runs

pub returns-clause-low : goal.returns-clause-low
returns-clause-low g c =
    let rules = g.T.Target.rules c.args.target.now in
    let values = g.T.Target.values in
    let holds : Holds = record { may = g.G.Gate.may_hold c.args.gate.now; must = g.G.Gate.must_hold c.args.gate.now } in
    let s = state_of values c.args.state in
    IfOk-weaker _ (λ r. IsBoundedRun rules holds c.args.slack c.args.interval c.args.limit s r.notes (state_of values r.end)) (λ r. r.end.clock ≤ c.args.limit)
    (λ r is. (run_cycles rules (IsHolding rules holds c.args.slack) c.args.interval c.args.limit s is).low) c.bounded_run.ensures.runs
