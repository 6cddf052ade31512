use Rattle.std.proofs.Common.{◌∙◌, sym, subst, arith}
use Rattle.target_law.specs.Views.{state_of}
use Rattle.violation_watch.specs.BoundedNotes.{IsBoundedBy}
use Rattle.pacing.specs.Pieces.{IsPieces}
use Rattle.pacing.proofs.Exact.{exact_if_quiet, pieces_keep, quiet_if_short}
use Rattle.target_law.proofs.Ways.{IsOnItsWay, begins, still_on, ends_ended, ends_limit}
use Rattle.pacing.proofs.Running.{clock_after, went}
use Rattle.pacing.proofs.runs.quantum_run.Goals as goal

pub loop-now-init : goal.loop-now-init
loop-now-init g c =
    let t = c.args.target.now in
    let rs = g.T.Target.rules t in
    let values = g.T.Target.values in
    let s = state_of values c.args.state in
    let step = IsBoundedBy rs (IsPieces rs c.args.quantum) in
    record {
      low = c.requires.begins;
      proper = c.requires.proper;
      way = subst (λ ns. IsOnItsWay rs c.args.interval c.args.limit step s ns s) (sym c.new-notes.ensures) begins;
    }

pub loop-now-preserved : goal.loop-now-preserved
loop-now-preserved g c =
    let t = c.args.target.now in
    let rs = g.T.Target.rules t in
    let values = g.T.Target.values in
    let s = state_of values c.args.state in
    let step = IsBoundedBy rs (IsPieces rs c.args.quantum) in
    let now = state_of values c.loop-now.now in
    let d = c.in_ok-end.field-0 in
    let then = state_of values d.end in
    let is = c.in_ok-end.ensures in
    let goes = went rs (g.T.Target.owns t) c.args.quantum c.min-cycles.result now then d.drift is.pieces is.drift c.args.interval c.args.limit s c.loop-now.notes c.push.new.self d.seen
    c.loop-now.invariant.way c.loop-now-test.true c.min-cycles.ensures is.seen c.in_ok-push.ensures.ok in
    let clock = clock_after rs (g.T.Target.owns t) c.args.quantum c.min-cycles.result now then d.drift is.pieces is.drift in
    record {
      low = omega (arith, clock, c.min-cycles.ensures, c.loop-now-test.true);
      proper = is.drift.proper;
      way = still_on rs c.args.interval c.args.limit step s c.push.new.self then goes (sym c.stopped.ensures ∙ c.if-stopped.false);
    }

-- where all cores have ended
pub returns-then-stopped-clause-runs : goal.returns-then-stopped-clause-runs
returns-then-stopped-clause-runs g c =
    let t = c.args.target.now in
    let rs = g.T.Target.rules t in
    let values = g.T.Target.values in
    let s = state_of values c.args.state in
    let step = IsBoundedBy rs (IsPieces rs c.args.quantum) in
    let now = state_of values c.loop-now.now in
    let d = c.in_ok-end.field-0 in
    let then = state_of values d.end in
    let is = c.in_ok-end.ensures in
    let goes = went rs (g.T.Target.owns t) c.args.quantum c.min-cycles.result now then d.drift is.pieces is.drift c.args.interval c.args.limit s c.loop-now.notes c.push.new.self d.seen
    c.loop-now.invariant.way c.loop-now-test.true c.min-cycles.ensures is.seen c.in_ok-push.ensures.ok in
    ends_ended rs c.args.interval c.args.limit step s c.push.new.self then goes (sym c.stopped.ensures ∙ c.if-stopped.true)

pub returns-then-stopped-clause-exact : goal.returns-then-stopped-clause-exact
returns-then-stopped-clause-exact g c =
    let t = c.args.target.now in
    let rs = g.T.Target.rules t in
    let values = g.T.Target.values in
    let s = state_of values c.args.state in
    let step = IsBoundedBy rs (IsPieces rs c.args.quantum) in
    let now = state_of values c.loop-now.now in
    let d = c.in_ok-end.field-0 in
    let then = state_of values d.end in
    let is = c.in_ok-end.ensures in
    let goes = went rs (g.T.Target.owns t) c.args.quantum c.min-cycles.result now then d.drift is.pieces is.drift c.args.interval c.args.limit s c.loop-now.notes c.push.new.self d.seen
    c.loop-now.invariant.way c.loop-now-test.true c.min-cycles.ensures is.seen c.in_ok-push.ensures.ok in
    exact_if_quiet rs (g.T.Target.owns t) ((g.met.T.Target g.world.𝓛 g.world.𝓜 g.world.𝓡 ((λ s x. x), (λ x. x), (λ x. x), λ x. x)).laws t) (IsPieces rs c.args.quantum) (pieces_keep rs (g.T.Target.owns t) ((g.met.T.Target g.world.𝓛 g.world.𝓜 g.world.𝓡 ((λ s x. x), (λ x. x), (λ x. x), λ x. x)).laws t) c.args.quantum) c.args.interval c.args.limit s c.push.new.self then c.requires.top c.requires.proper
    (ends_ended rs c.args.interval c.args.limit step s c.push.new.self then goes (sym c.stopped.ensures ∙ c.if-stopped.true))

pub returns-then-stopped-clause-short : goal.returns-then-stopped-clause-short
returns-then-stopped-clause-short g c =
    let t = c.args.target.now in
    let rs = g.T.Target.rules t in
    let values = g.T.Target.values in
    let s = state_of values c.args.state in
    let step = IsBoundedBy rs (IsPieces rs c.args.quantum) in
    let now = state_of values c.loop-now.now in
    let d = c.in_ok-end.field-0 in
    let then = state_of values d.end in
    let is = c.in_ok-end.ensures in
    let goes = went rs (g.T.Target.owns t) c.args.quantum c.min-cycles.result now then d.drift is.pieces is.drift c.args.interval c.args.limit s c.loop-now.notes c.push.new.self d.seen
    c.loop-now.invariant.way c.loop-now-test.true c.min-cycles.ensures is.seen c.in_ok-push.ensures.ok in
    quiet_if_short rs (g.T.Target.owns t) ((g.met.T.Target g.world.𝓛 g.world.𝓜 g.world.𝓡 ((λ s x. x), (λ x. x), (λ x. x), λ x. x)).laws t) c.args.quantum c.args.interval c.args.limit s c.push.new.self then c.requires.top c.requires.proper
    (ends_ended rs c.args.interval c.args.limit step s c.push.new.self then goes (sym c.stopped.ensures ∙ c.if-stopped.true))

-- at the limit
pub returns-clause-runs : goal.returns-clause-runs
returns-clause-runs g c =
    let t = c.args.target.now in
    let rs = g.T.Target.rules t in
    let values = g.T.Target.values in
    let s = state_of values c.args.state in
    let step = IsBoundedBy rs (IsPieces rs c.args.quantum) in
    ends_limit rs c.args.interval c.args.limit step s c.loop-now.notes (state_of values c.loop-now.now) c.loop-now.invariant.way (omega (arith, c.loop-now.invariant.low, c.loop-now-test.false))

pub returns-clause-exact : goal.returns-clause-exact
returns-clause-exact g c =
    let t = c.args.target.now in
    let rs = g.T.Target.rules t in
    let values = g.T.Target.values in
    let s = state_of values c.args.state in
    let step = IsBoundedBy rs (IsPieces rs c.args.quantum) in
    exact_if_quiet rs (g.T.Target.owns t) ((g.met.T.Target g.world.𝓛 g.world.𝓜 g.world.𝓡 ((λ s x. x), (λ x. x), (λ x. x), λ x. x)).laws t) (IsPieces rs c.args.quantum) (pieces_keep rs (g.T.Target.owns t) ((g.met.T.Target g.world.𝓛 g.world.𝓜 g.world.𝓡 ((λ s x. x), (λ x. x), (λ x. x), λ x. x)).laws t) c.args.quantum) c.args.interval c.args.limit s c.loop-now.notes (state_of values c.loop-now.now) c.requires.top c.requires.proper
    (ends_limit rs c.args.interval c.args.limit step s c.loop-now.notes (state_of values c.loop-now.now) c.loop-now.invariant.way (omega (arith, c.loop-now.invariant.low, c.loop-now-test.false)))

pub returns-clause-short : goal.returns-clause-short
returns-clause-short g c =
    let t = c.args.target.now in
    let rs = g.T.Target.rules t in
    let values = g.T.Target.values in
    let s = state_of values c.args.state in
    let step = IsBoundedBy rs (IsPieces rs c.args.quantum) in
    quiet_if_short rs (g.T.Target.owns t) ((g.met.T.Target g.world.𝓛 g.world.𝓜 g.world.𝓡 ((λ s x. x), (λ x. x), (λ x. x), λ x. x)).laws t) c.args.quantum c.args.interval c.args.limit s c.loop-now.notes (state_of values c.loop-now.now) c.requires.top c.requires.proper
    (ends_limit rs c.args.interval c.args.limit step s c.loop-now.notes (state_of values c.loop-now.now) c.loop-now.invariant.way (omega (arith, c.loop-now.invariant.low, c.loop-now-test.false)))
