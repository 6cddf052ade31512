use Rattle.std.proofs.Common.{◌≡◌, ◌∙◌, sym, ap, subst, arith}
use Rattle.slack_base.specs.declared.histories.Drift.{Drift}
use Rattle.target_law.specs.Views.{state_of}
use Rattle.violation_watch.proofs.Join.{complete}
use Rattle.pacing.specs.Open.{IsOpen}
use Rattle.pacing.specs.Views.{underway_of}
use Rattle.pacing.proofs.Ending.{pieces_of, pieces_drift, clash_each}
use Rattle.pacing.proofs.Opened.{open_begun}
use Rattle.pacing.proofs.drifts.quantum_drift.Goals as goal

pub pieces-requires-clause-open : goal.pieces-requires-clause-open
pieces-requires-clause-open g c κs bounds =
    let t = c.args.target.now in
    let rs = g.T.Target.rules t in
    let owns = g.T.Target.owns t in
    subst (IsOpen rs owns) (sym c.in_ok-underway.ensures.begun) (open_begun rs owns ((g.met.T.Target g.world.𝓛 g.world.𝓜 g.world.𝓡 ((λ s x. x), (λ x. x), (λ x. x), λ x. x)).laws t) (state_of g.T.Target.values c.args.state) c.requires.proper)

pub scan-requires-clause-clashes : goal.scan-requires-clause-clashes
scan-requires-clause-clashes g c κs bounds =
    let t = c.args.target.now in
    let rs = g.T.Target.rules t in
    let values = g.T.Target.values in
    let s = state_of values c.args.state in
    clash_each rs (g.T.Target.owns t) ((g.met.T.Target g.world.𝓛 g.world.𝓜 g.world.𝓡 ((λ s x. x), (λ x. x), (λ x. x), λ x. x)).laws t) s c.in_ok-end.drift (state_of values c.in_ok-end.end)
    (pieces_drift rs (g.T.Target.owns t) ((g.met.T.Target g.world.𝓛 g.world.𝓜 g.world.𝓡 ((λ s x. x), (λ x. x), (λ x. x), λ x. x)).laws t) s c.args.quantum c.args.len c.in_ok-end.drift (state_of values c.in_ok-end.end) c.requires.proper c.requires.top
    (pieces_of rs s c.args.quantum c.args.len (underway_of values c.in_ok-underway.underway) (underway_of values c.pieces.new.self) c.in_ok-end.drift (state_of values c.in_ok-end.end)
    c.in_ok-underway.ensures.begun c.in_ok-pieces.ensures.pieces c.in_ok-end.ensures.history c.in_ok-end.ensures.end)).drift

pub returns-clause-pieces : goal.returns-clause-pieces
returns-clause-pieces g c =
    let t = c.args.target.now in
    let rs = g.T.Target.rules t in
    let values = g.T.Target.values in
    let s = state_of values c.args.state in
    pieces_of rs s c.args.quantum c.args.len (underway_of values c.in_ok-underway.underway) (underway_of values c.pieces.new.self) c.in_ok-end.drift (state_of values c.in_ok-end.end)
    c.in_ok-underway.ensures.begun c.in_ok-pieces.ensures.pieces c.in_ok-end.ensures.history c.in_ok-end.ensures.end

pub returns-clause-drift : goal.returns-clause-drift
returns-clause-drift g c =
    let t = c.args.target.now in
    let rs = g.T.Target.rules t in
    let values = g.T.Target.values in
    let s = state_of values c.args.state in
    pieces_drift rs (g.T.Target.owns t) ((g.met.T.Target g.world.𝓛 g.world.𝓜 g.world.𝓡 ((λ s x. x), (λ x. x), (λ x. x), λ x. x)).laws t) s c.args.quantum c.args.len c.in_ok-end.drift (state_of values c.in_ok-end.end) c.requires.proper c.requires.top
    (pieces_of rs s c.args.quantum c.args.len (underway_of values c.in_ok-underway.underway) (underway_of values c.pieces.new.self) c.in_ok-end.drift (state_of values c.in_ok-end.end)
    c.in_ok-underway.ensures.begun c.in_ok-pieces.ensures.pieces c.in_ok-end.ensures.history c.in_ok-end.ensures.end)

pub returns-clause-exact : goal.returns-clause-exact
returns-clause-exact g c =
    let t = c.args.target.now in
    let rs = g.T.Target.rules t in
    let values = g.T.Target.values in
    let s = state_of values c.args.state in
    let laws = ((g.met.T.Target g.world.𝓛 g.world.𝓜 g.world.𝓡 ((λ s x. x), (λ x. x), (λ x. x), λ x. x)).laws t) in
    let d = c.in_ok-end.drift in
    let e = state_of values c.in_ok-end.end in
    let pieces = pieces_of rs s c.args.quantum c.args.len (underway_of values c.in_ok-underway.underway) (underway_of values c.pieces.new.self) d e
    c.in_ok-underway.ensures.begun c.in_ok-pieces.ensures.pieces c.in_ok-end.ensures.history c.in_ok-end.ensures.end in
    let drift = (pieces_drift rs (g.T.Target.owns t) laws s c.args.quantum c.args.len d e c.requires.proper c.requires.top pieces).drift in
    let start = drift.start in
    let clock = drift.clock in
    let long : d.len ≡ c.args.len = ap (λ (x : Drift). x.len) pieces.drift in
    λ quiet. complete rs (g.T.Target.owns t) laws s d e c.requires.proper drift (omega (arith, start, clock, long, c.requires.top)) (sym c.in_ok-seen.ensures ∙ quiet)
