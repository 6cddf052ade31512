use Rattle.std.proofs.Common.{◌<◌, ◌∙◌, sym, ap, subst}
use Rattle.io_edge.specs.Holds.{Holds}
use Rattle.target_law.specs.Ticks.{drift_ticks_of, replay_ticks_of}
use Rattle.target_law.specs.Views.{state_of}
use Rattle.spec_run.proofs.Running.{limit_within, ends_exactly, counted}
use Rattle.spec_run.proofs.runs.speculate.Goals as goal

pub run_intervals-requires-clause-top : goal.run_intervals-requires-clause-top
run_intervals-requires-clause-top g c κs within =
    let t = c.args.target.now in
    limit_within (g.T.Target.rules t).cores c.args.run.now.limit ((g.met.T.Target g.world.𝓛 g.world.𝓜 g.world.𝓡 ((λ s x. x), (λ x. x), (λ x. x), λ x. x)).laws t).some_cores c.requires.few

pub returns-clause-exact : goal.returns-clause-exact
returns-clause-exact g c =
    let values = g.T.Target.values in
    let holds : Holds = record { may = g.G.Gate.may_hold c.args.gate.now; must = g.G.Gate.must_hold c.args.gate.now } in
    let run = c.args.run.now in
    ends_exactly (g.T.Target.rules c.args.target.now) holds run.slack run.interval run.limit (state_of values c.args.state) c.in_ok-end.field-0.notes (state_of values c.in_ok-end.field-0.end) c.in_ok-end.ensures.runs

pub drift_ticks-drift_ticks-requires-clause-sum : goal.drift_ticks-drift_ticks-requires-clause-sum
drift_ticks-drift_ticks-requires-clause-sum g c =
    let t = c.args.target.now in
    let values = g.T.Target.values in
    let holds : Holds = record { may = g.G.Gate.may_hold c.args.gate.now; must = g.G.Gate.must_hold c.args.gate.now } in
    let run = c.args.run.now in
    let is = counted (g.T.Target.rules t) holds run.slack run.interval run.limit (state_of values c.args.state) c.in_ok-end.field-0.notes (state_of values c.in_ok-end.field-0.end)
    ((g.met.T.Target g.world.𝓛 g.world.𝓜 g.world.𝓡 ((λ s x. x), (λ x. x), (λ x. x), λ x. x)).laws t).some_cores c.requires.few c.in_ok-end.ensures.runs in
    is.cycles

pub drift_ticks-drift_ticks-requires-clause-product : goal.drift_ticks-drift_ticks-requires-clause-product
drift_ticks-drift_ticks-requires-clause-product g c =
    let t = c.args.target.now in
    let values = g.T.Target.values in
    let holds : Holds = record { may = g.G.Gate.may_hold c.args.gate.now; must = g.G.Gate.must_hold c.args.gate.now } in
    let run = c.args.run.now in
    let is = counted (g.T.Target.rules t) holds run.slack run.interval run.limit (state_of values c.args.state) c.in_ok-end.field-0.notes (state_of values c.in_ok-end.field-0.end)
    ((g.met.T.Target g.world.𝓛 g.world.𝓜 g.world.𝓡 ((λ s x. x), (λ x. x), (λ x. x), λ x. x)).laws t).some_cores c.requires.few c.in_ok-end.ensures.runs in
    subst (λ n. drift_ticks_of n c.in_ok-end.field-0.notes < 18446744073709551616) (sym c.cores-cores.ensures) is.drift_ticks

pub replay_ticks-replay_ticks-requires-clause-sum : goal.replay_ticks-replay_ticks-requires-clause-sum
replay_ticks-replay_ticks-requires-clause-sum g c =
    let t = c.args.target.now in
    let values = g.T.Target.values in
    let holds : Holds = record { may = g.G.Gate.may_hold c.args.gate.now; must = g.G.Gate.must_hold c.args.gate.now } in
    let run = c.args.run.now in
    let is = counted (g.T.Target.rules t) holds run.slack run.interval run.limit (state_of values c.args.state) c.in_ok-end.field-0.notes (state_of values c.in_ok-end.field-0.end)
    ((g.met.T.Target g.world.𝓛 g.world.𝓜 g.world.𝓡 ((λ s x. x), (λ x. x), (λ x. x), λ x. x)).laws t).some_cores c.requires.few c.in_ok-end.ensures.runs in
    is.replayed

pub replay_ticks-replay_ticks-requires-clause-product : goal.replay_ticks-replay_ticks-requires-clause-product
replay_ticks-replay_ticks-requires-clause-product g c =
    let t = c.args.target.now in
    let values = g.T.Target.values in
    let holds : Holds = record { may = g.G.Gate.may_hold c.args.gate.now; must = g.G.Gate.must_hold c.args.gate.now } in
    let run = c.args.run.now in
    let is = counted (g.T.Target.rules t) holds run.slack run.interval run.limit (state_of values c.args.state) c.in_ok-end.field-0.notes (state_of values c.in_ok-end.field-0.end)
    ((g.met.T.Target g.world.𝓛 g.world.𝓜 g.world.𝓡 ((λ s x. x), (λ x. x), (λ x. x), λ x. x)).laws t).some_cores c.requires.few c.in_ok-end.ensures.runs in
    subst (λ n. replay_ticks_of n c.in_ok-end.field-0.notes < 18446744073709551616) (sym c.cores-cores.ensures) is.replay_ticks

pub returns-clause-cycles : goal.returns-clause-cycles
returns-clause-cycles g c =
    let t = c.args.target.now in
    let values = g.T.Target.values in
    let holds : Holds = record { may = g.G.Gate.may_hold c.args.gate.now; must = g.G.Gate.must_hold c.args.gate.now } in
    let run = c.args.run.now in
    let is = counted (g.T.Target.rules t) holds run.slack run.interval run.limit (state_of values c.args.state) c.in_ok-end.field-0.notes (state_of values c.in_ok-end.field-0.end)
    ((g.met.T.Target g.world.𝓛 g.world.𝓜 g.world.𝓡 ((λ s x. x), (λ x. x), (λ x. x), λ x. x)).laws t).some_cores c.requires.few c.in_ok-end.ensures.runs in
    c.drift_ticks-drift_ticks.ensures ∙ ap (λ n. drift_ticks_of n c.in_ok-end.field-0.notes) c.cores-cores.ensures ∙ is.sum
