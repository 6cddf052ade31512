use Rattle.std.proofs.Common.{◌∙◌, sym, subst, arith}
use Rattle.io_edge.specs.Holds.{Holds}
use Rattle.target_law.specs.Views.{state_of}
use Rattle.violation_watch.specs.BoundedNotes.{IsBoundedBy}
use Rattle.drift_run.specs.BoundedRuns.{IsHolding}
use Rattle.target_law.proofs.Ways.{IsOnItsWay, begins, still_on, ends_ended, ends_limit}
use Rattle.drift_run.proofs.Running.{drifted, clock_after}
use Rattle.drift_run.proofs.runs.bounded_run.Goals as goal

pub loop-now-init : goal.loop-now-init
loop-now-init g c =
    let rs = g.T.Target.rules c.args.target.now in
    let holds : Holds = record { may = g.G.Gate.may_hold c.args.gate.now; must = g.G.Gate.must_hold c.args.gate.now } in
    let s = state_of g.T.Target.values c.args.state in
    let step = IsBoundedBy rs (IsHolding rs holds c.args.pace.now.slack) in
    record {
      low = c.requires.begins;
      proper = c.requires.proper;
      way = subst (λ ns. IsOnItsWay rs c.args.interval c.args.limit step s ns s) (sym c.new-notes.ensures) begins;
    }

pub loop-now-preserved : goal.loop-now-preserved
loop-now-preserved g c =
    let rs = g.T.Target.rules c.args.target.now in
    let values = g.T.Target.values in
    let holds : Holds = record { may = g.G.Gate.may_hold c.args.gate.now; must = g.G.Gate.must_hold c.args.gate.now } in
    let s = state_of values c.args.state in
    let kind = IsHolding rs holds c.args.pace.now.slack in
    let now = state_of values c.loop-now.now in
    let d = c.in_ok-end.field-0 in
    let then = state_of values d.end in
    let is = c.in_ok-end.ensures in
    let goes = drifted rs kind c.args.interval c.args.limit s c.loop-now.notes c.push.new.self c.min-cycles.result now then d.drift d.seen
    c.loop-now.invariant.way c.loop-now-test.true c.min-cycles.ensures is.holds is.drift is.len is.seen c.in_ok-push.ensures.ok in
    let clock = clock_after rs c.min-cycles.result now then d.drift is.drift is.len in
    record {
      low = omega (arith, clock, c.min-cycles.ensures, c.loop-now-test.true);
      proper = is.proper;
      way = still_on rs c.args.interval c.args.limit (IsBoundedBy rs kind) s c.push.new.self then goes (sym c.stopped.ensures ∙ c.if-stopped.false);
    }

-- where all cores have ended
pub returns-then-stopped-clause-runs : goal.returns-then-stopped-clause-runs
returns-then-stopped-clause-runs g c =
    let rs = g.T.Target.rules c.args.target.now in
    let values = g.T.Target.values in
    let holds : Holds = record { may = g.G.Gate.may_hold c.args.gate.now; must = g.G.Gate.must_hold c.args.gate.now } in
    let s = state_of values c.args.state in
    let kind = IsHolding rs holds c.args.pace.now.slack in
    let now = state_of values c.loop-now.now in
    let d = c.in_ok-end.field-0 in
    let then = state_of values d.end in
    let is = c.in_ok-end.ensures in
    let goes = drifted rs kind c.args.interval c.args.limit s c.loop-now.notes c.push.new.self c.min-cycles.result now then d.drift d.seen
    c.loop-now.invariant.way c.loop-now-test.true c.min-cycles.ensures is.holds is.drift is.len is.seen c.in_ok-push.ensures.ok in
    ends_ended rs c.args.interval c.args.limit (IsBoundedBy rs kind) s c.push.new.self then goes (sym c.stopped.ensures ∙ c.if-stopped.true)

-- at the limit
pub returns-clause-runs : goal.returns-clause-runs
returns-clause-runs g c =
    let rs = g.T.Target.rules c.args.target.now in
    let values = g.T.Target.values in
    let holds : Holds = record { may = g.G.Gate.may_hold c.args.gate.now; must = g.G.Gate.must_hold c.args.gate.now } in
    let s = state_of values c.args.state in
    let kind = IsHolding rs holds c.args.pace.now.slack in
    ends_limit rs c.args.interval c.args.limit (IsBoundedBy rs kind) s c.loop-now.notes (state_of values c.loop-now.now) c.loop-now.invariant.way (omega (arith, c.loop-now.invariant.low, c.loop-now-test.false))
