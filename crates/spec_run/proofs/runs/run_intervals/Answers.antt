use Rattle.std.proofs.Common.{◌∙◌, ◌∷◌, [], sym, subst, arith}
use Rattle.io_edge.specs.Holds.{Holds}
use Rattle.target_law.specs.Views.{state_of}
use Rattle.target_law.proofs.Ways.{IsOnItsWay, begins, still_on, ends_ended, ends_limit}
use Rattle.spec_run.specs.Speculative.{IsSpeculated}
use Rattle.spec_run.proofs.Running.{speculated, clock_after}
use Rattle.spec_run.proofs.runs.run_intervals.Goals as goal

pub loop-now-init : goal.loop-now-init
loop-now-init g c =
    let rs = g.T.Target.rules c.args.target.now in
    let holds : Holds = record { may = g.G.Gate.may_hold c.args.gate.now; must = g.G.Gate.must_hold c.args.gate.now } in
    let s = state_of g.T.Target.values c.args.state in
    let run = c.args.run.now in
    record {
      low = c.requires.begins;
      proper = c.requires.proper;
      punctual = c.requires.punctual;
      way = subst (λ ns. IsOnItsWay rs run.interval run.limit (IsSpeculated rs holds run.slack) s ns s) (sym c.new-notes.ensures) begins;
    }

pub loop-now-smaller : goal.loop-now-smaller
loop-now-smaller g c =
    let values = g.T.Target.values in
    let holds : Holds = record { may = g.G.Gate.may_hold c.args.gate.now; must = g.G.Gate.must_hold c.args.gate.now } in
    let run = c.args.run.now in
    let end = c.in_ok-end.field-0 in
    let clock = clock_after (g.T.Target.rules c.args.target.now) holds run.slack c.min-cycles.result (state_of values c.loop-now.now) (state_of values end.end) [] (end.note ∷ []) c.in_ok-end.ensures.step in
    omega (arith, clock, c.min-cycles.ensures, c.loop-now-test.true, c.requires.interval)

pub loop-now-preserved : goal.loop-now-preserved
loop-now-preserved g c =
    let rs = g.T.Target.rules c.args.target.now in
    let values = g.T.Target.values in
    let holds : Holds = record { may = g.G.Gate.may_hold c.args.gate.now; must = g.G.Gate.must_hold c.args.gate.now } in
    let s = state_of values c.args.state in
    let run = c.args.run.now in
    let now = state_of values c.loop-now.now in
    let end = c.in_ok-end.field-0 in
    let then = state_of values end.end in
    let is = c.in_ok-end.ensures in
    let goes = speculated rs holds run.slack run.interval run.limit s c.loop-now.notes c.push.new.self c.min-cycles.result now then end.note
    c.loop-now.invariant.way c.loop-now-test.true c.min-cycles.ensures is.step c.in_ok-push.ensures.ok in
    let clock = clock_after rs holds run.slack c.min-cycles.result now then [] (end.note ∷ []) is.step in
    record {
      low = omega (arith, clock, c.min-cycles.ensures, c.loop-now-test.true);
      proper = is.proper;
      punctual = is.punctual;
      way = still_on rs run.interval run.limit (IsSpeculated rs holds run.slack) s c.push.new.self then goes (sym c.stopped.ensures ∙ c.if-stopped.false);
    }

-- where all cores have ended
pub returns-then-stopped-clause-runs : goal.returns-then-stopped-clause-runs
returns-then-stopped-clause-runs g c =
    let rs = g.T.Target.rules c.args.target.now in
    let values = g.T.Target.values in
    let holds : Holds = record { may = g.G.Gate.may_hold c.args.gate.now; must = g.G.Gate.must_hold c.args.gate.now } in
    let s = state_of values c.args.state in
    let run = c.args.run.now in
    let now = state_of values c.loop-now.now in
    let end = c.in_ok-end.field-0 in
    let then = state_of values end.end in
    let goes = speculated rs holds run.slack run.interval run.limit s c.loop-now.notes c.push.new.self c.min-cycles.result now then end.note
    c.loop-now.invariant.way c.loop-now-test.true c.min-cycles.ensures c.in_ok-end.ensures.step c.in_ok-push.ensures.ok in
    ends_ended rs run.interval run.limit (IsSpeculated rs holds run.slack) s c.push.new.self then goes (sym c.stopped.ensures ∙ c.if-stopped.true)

-- at the limit
pub returns-clause-runs : goal.returns-clause-runs
returns-clause-runs g c =
    let rs = g.T.Target.rules c.args.target.now in
    let values = g.T.Target.values in
    let holds : Holds = record { may = g.G.Gate.may_hold c.args.gate.now; must = g.G.Gate.must_hold c.args.gate.now } in
    let s = state_of values c.args.state in
    let run = c.args.run.now in
    ends_limit rs run.interval run.limit (IsSpeculated rs holds run.slack) s c.loop-now.notes (state_of values c.loop-now.now) c.loop-now.invariant.way (omega (arith, c.loop-now.invariant.low, c.loop-now-test.false))
