use Rattle.std.proofs.Common.{◌+◌, ◌∙◌, sym, ap, subst, arith}
use Rattle.std.proofs.lemmas.Bool.{false≢true}
use Rattle.io_edge.specs.Holds.{Holds}
use Rattle.target_law.specs.Cycles.{StateValue}
use Rattle.target_law.specs.Proper.{IsProper, IsPunctual}
use Rattle.target_law.specs.Views.{state_of}
use Rattle.checkpoint.proofs.Staying.{still_marked}
use Rattle.spec_run.proofs.Noting.{IsMade, quiet_end, kept_so, rolled_so, replayed}
use Rattle.target_law.proofs.Punctual.{punctual_after}
use Rattle.spec_run.proofs.intervals.one_interval.Goals as goal

pub commit-requires-after_bounds : goal.commit-requires-after_bounds
commit-requires-after_bounds g c κs within =
    let values = g.T.Target.values in
    let s = state_of values c.args.state in
    (s, still_marked values s c.take.new.state c.in_ok-drifted.drifted.end c.in_ok-checkpoint.ensures.marked c.in_ok-drifted.ensures.marks)

pub returns-then-is_empty-clause-step : goal.returns-then-is_empty-clause-step
returns-then-is_empty-clause-step g c =
    let rules = g.T.Target.rules c.args.target.now in
    let values = g.T.Target.values in
    let holds : Holds = record { may = g.G.Gate.may_hold c.args.gate.now; must = g.G.Gate.must_hold c.args.gate.now } in
    let s = state_of values c.args.state in
    let r = c.in_ok-drifted.drifted in
    let is = c.in_ok-drifted.ensures in
    let made = subst (IsMade rules holds c.args.pace.now.slack c.args.cycles r.drift r.seen (state_of values r.end)) c.in_ok-checkpoint.ensures.state
    (record { fits = is.drift; len = is.len; recorded = is.seen; exact = is.exact; keeps = is.holds }) in
    kept_so rules holds c.args.pace.now.slack c.args.cycles s r.drift r.seen (state_of values r.end) made (state_of values c.commit.new.state)
    (c.is_empty.ensures.0 c.if-is_empty.true) c.commit.ensures.state

pub returns-then-is_empty-clause-punctual : goal.returns-then-is_empty-clause-punctual
returns-then-is_empty-clause-punctual g c =
    let t = c.args.target.now in
    let rules = g.T.Target.rules t in
    let values = g.T.Target.values in
    let holds : Holds = record { may = g.G.Gate.may_hold c.args.gate.now; must = g.G.Gate.must_hold c.args.gate.now } in
    let s = state_of values c.args.state in
    let r = c.in_ok-drifted.drifted in
    let is = c.in_ok-drifted.ensures in
    let made = subst (IsMade rules holds c.args.pace.now.slack c.args.cycles r.drift r.seen (state_of values r.end)) c.in_ok-checkpoint.ensures.state
    (record { fits = is.drift; len = is.len; recorded = is.seen; exact = is.exact; keeps = is.holds }) in
    let end = quiet_end rules holds c.args.pace.now.slack c.args.cycles s r.drift r.seen (state_of values r.end) made (c.is_empty.ensures.0 c.if-is_empty.true) in
    subst IsPunctual (sym (c.commit.ensures.state ∙ end))
    (punctual_after rules (g.T.Target.owns t) ((g.met.T.Target g.world.𝓛 g.world.𝓜 g.world.𝓡 ((λ s x. x), (λ x. x), (λ x. x), λ x. x)).laws t) c.args.cycles s c.requires.proper c.requires.punctual c.requires.top)

pub restore-requires-after_bounds : goal.restore-requires-after_bounds
restore-requires-after_bounds g c κs within =
    let values = g.T.Target.values in
    let s = state_of values c.args.state in
    (s, still_marked values s c.take.new.state c.in_ok-drifted.drifted.end c.in_ok-checkpoint.ensures.marked c.in_ok-drifted.ensures.marks)

pub run_to-requires-clause-order : goal.run_to-requires-clause-order
run_to-requires-clause-order g c κs within =
    let values = g.T.Target.values in
    let s = state_of values c.args.state in
    let back = c.restore.ensures.state s (sym c.in_ok-checkpoint.ensures.clock)
    (still_marked values s c.take.new.state c.in_ok-drifted.drifted.end c.in_ok-checkpoint.ensures.marked c.in_ok-drifted.ensures.marks) in
    let clock = ap (λ (q : StateValue g.T.Target.Inner g.T.Target.Channel). q.clock) back in
    omega (arith, clock)

pub run_to-requires-clause-proper : goal.run_to-requires-clause-proper
run_to-requires-clause-proper g c κs within =
    let t = c.args.target.now in
    let values = g.T.Target.values in
    let s = state_of values c.args.state in
    let back = c.restore.ensures.state s (sym c.in_ok-checkpoint.ensures.clock)
    (still_marked values s c.take.new.state c.in_ok-drifted.drifted.end c.in_ok-checkpoint.ensures.marked c.in_ok-drifted.ensures.marks) in
    subst (IsProper (g.T.Target.rules t) (g.T.Target.owns t)) (sym back) c.requires.proper

pub run_to-requires-clause-punctual : goal.run_to-requires-clause-punctual
run_to-requires-clause-punctual g c κs within =
    let values = g.T.Target.values in
    let s = state_of values c.args.state in
    let back = c.restore.ensures.state s (sym c.in_ok-checkpoint.ensures.clock)
    (still_marked values s c.take.new.state c.in_ok-drifted.drifted.end c.in_ok-checkpoint.ensures.marked c.in_ok-drifted.ensures.marks) in
    subst IsPunctual (sym back) c.requires.punctual

pub returns-clause-step : goal.returns-clause-step
returns-clause-step g c =
    let rules = g.T.Target.rules c.args.target.now in
    let values = g.T.Target.values in
    let holds : Holds = record { may = g.G.Gate.may_hold c.args.gate.now; must = g.G.Gate.must_hold c.args.gate.now } in
    let s = state_of values c.args.state in
    let r = c.in_ok-drifted.drifted in
    let is = c.in_ok-drifted.ensures in
    let made = subst (IsMade rules holds c.args.pace.now.slack c.args.cycles r.drift r.seen (state_of values r.end)) c.in_ok-checkpoint.ensures.state
    (record { fits = is.drift; len = is.len; recorded = is.seen; exact = is.exact; keeps = is.holds }) in
    let back = c.restore.ensures.state s (sym c.in_ok-checkpoint.ensures.clock)
    (still_marked values s c.take.new.state c.in_ok-drifted.drifted.end c.in_ok-checkpoint.ensures.marked c.in_ok-drifted.ensures.marks) in
    let clock = ap (λ (q : StateValue g.T.Target.Inner g.T.Target.Channel). q.clock) back in
    let there = state_of values c.restore.new.state in
    let again = c.in_ok-run_to.ensures.state ∙ replayed rules s there (c.args.state.clock + c.args.cycles) c.args.cycles back (omega (arith, clock)) in
    rolled_so rules holds c.args.pace.now.slack c.args.cycles s r.drift r.seen (state_of values r.end) made (state_of values c.run_to.new.state)
    (λ none. false≢true (sym c.if-is_empty.false ∙ c.is_empty.ensures.1 none)) again

pub returns-clause-punctual : goal.returns-clause-punctual
returns-clause-punctual g c = c.in_ok-run_to.ensures.punctual
