use Rattle.io_edge.specs.Holds.{Holds}
use Rattle.target_law.specs.Views.{state_of}
use Rattle.spec_run.proofs.Running.{run_cycles}
use Rattle.image_run.proofs.modes.run_speculative.Goals as goal

pub returns-clause-counted : goal.returns-clause-counted
returns-clause-counted g c =
    let rules = g.T.Target.rules c.args.target.now in
    let values = g.T.Target.values in
    let holds : Holds = record { may = g.G.Gate.may_hold c.args.gate.now; must = g.G.Gate.must_hold c.args.gate.now } in
    let done = c.in_ok-end.field-0 in
    (run_cycles rules holds c.args.slack c.args.interval c.args.limit (state_of values c.args.state) done.notes (state_of values done.end) c.in_ok-end.ensures.runs).sum

pub returns-clause-low : goal.returns-clause-low
returns-clause-low g c =
    let rules = g.T.Target.rules c.args.target.now in
    let values = g.T.Target.values in
    let holds : Holds = record { may = g.G.Gate.may_hold c.args.gate.now; must = g.G.Gate.must_hold c.args.gate.now } in
    let done = c.in_ok-end.field-0 in
    (run_cycles rules holds c.args.slack c.args.interval c.args.limit (state_of values c.args.state) done.notes (state_of values done.end) c.in_ok-end.ensures.runs).low
