use Rattle.std.proofs.Common.{◌≡◌, ◌+◌, ◌-◌, ◌≤◌, [], refl, sum_by}
use Rattle.std.proofs.lemmas.Result.{IfOk-weaker}
use Rattle.target_law.specs.Runs.{Ends}
use Rattle.target_law.specs.Views.{state_of}
use Rattle.violation_watch.specs.BoundedNotes.{IsBoundedBy}
use Rattle.drive_script.specs.Scripts.{IsScriptOf}
use Rattle.target_law.specs.Ticks.{cycles_of}
use Rattle.image_run.proofs.Intervals.{one_interval, run_cycles}
use Rattle.image_run.proofs.modes.run_script.Goals as goal

pub returns-clause-ends : goal.returns-clause-ends
returns-clause-ends g c =
    let rules = g.T.Target.rules c.args.target.now in
    let values = g.T.Target.values in
    let kind = IsScriptOf rules c.args.steps.now in
    let s = state_of values c.args.state in
    let cycles = c.args.limit - c.args.state.clock in
    IfOk-weaker _ (λ r. IsBoundedBy rules kind [] cycles s r.notes (state_of values r.end))
    (λ r. Ends rules c.args.interval c.args.limit (IsBoundedBy rules kind) s r.notes (state_of values r.end))
    (λ r is. one_interval rules kind c.args.interval c.args.limit cycles s r.notes (state_of values r.end) c.requires.begins c.requires.one refl is)
    c.script_run.ensures.interval

pub returns-clause-counted : goal.returns-clause-counted
returns-clause-counted g c =
    let rules = g.T.Target.rules c.args.target.now in
    let values = g.T.Target.values in
    let kind = IsScriptOf rules c.args.steps.now in
    let s = state_of values c.args.state in
    let cycles = c.args.limit - c.args.state.clock in
    IfOk-weaker _ (λ r. IsBoundedBy rules kind [] cycles s r.notes (state_of values r.end)) (λ r. c.args.state.clock + sum_by cycles_of r.notes ≡ r.end.clock)
    (λ r is. (run_cycles rules kind c.args.interval c.args.limit s (one_interval rules kind c.args.interval c.args.limit cycles s r.notes (state_of values r.end) c.requires.begins c.requires.one refl is)).cycles)
    c.script_run.ensures.interval

pub returns-clause-low : goal.returns-clause-low
returns-clause-low g c =
    let rules = g.T.Target.rules c.args.target.now in
    let values = g.T.Target.values in
    let kind = IsScriptOf rules c.args.steps.now in
    let s = state_of values c.args.state in
    let cycles = c.args.limit - c.args.state.clock in
    IfOk-weaker _ (λ r. IsBoundedBy rules kind [] cycles s r.notes (state_of values r.end)) (λ r. r.end.clock ≤ c.args.limit)
    (λ r is. (run_cycles rules kind c.args.interval c.args.limit s (one_interval rules kind c.args.interval c.args.limit cycles s r.notes (state_of values r.end) c.requires.begins c.requires.one refl is)).low)
    c.script_run.ensures.interval
