use Rattle.std.proofs.Common.{◌≤◌, ◌+◌, arith, subst}
use Rattle.slack_base.specs.declared.bounds.TheConstants.{TOP}
use Rattle.pacing.specs.Pieces.{IsPiece, piece, ended}
use Rattle.pacing.specs.Views.{underway_of}
use Rattle.pacing.proofs.Opened.{open_piece}
use Rattle.pacing.proofs.underway.Underway.pieces.Goals as goal

pub loop-self-preserved : goal.loop-self-preserved
loop-self-preserved g c =
    let t = c.args.target.now in
    let rs = g.T.Target.rules t in
    let now = underway_of g.T.Target.values c.loop-self.self in
    let then = underway_of g.T.Target.values c.piece.new.self in
    let is = c.loop-self.invariant in
    let within : c.loop-self.self.clock + c.min-len.result ≤ TOP = omega (arith, c.min-len.ensures, c.loop-self-test.true, c.requires.top) in
    record {
      here = open_piece rs (g.T.Target.owns t) ((g.met.T.Target g.world.𝓛 g.world.𝓜 g.world.𝓡 ((λ s x. x), (λ x. x), (λ x. x), λ x. x)).laws t) c.min-len.result now then within is.here c.in_ok-piece.ensures.piece;
      low = omega (arith, c.in_ok-piece.ensures.clock, c.min-len.ensures, c.loop-self-test.true);
      leads = λ e rest. is.leads e (piece c.loop-self-test.true (subst (λ n. IsPiece rs n now then) c.min-len.ensures c.in_ok-piece.ensures.piece) rest);
    }

pub returns-clause-pieces : goal.returns-clause-pieces
returns-clause-pieces g c =
    c.loop-self.invariant.leads (underway_of g.T.Target.values c.loop-self.self) (ended (omega (arith, c.loop-self.invariant.low, c.loop-self-test.false)))
