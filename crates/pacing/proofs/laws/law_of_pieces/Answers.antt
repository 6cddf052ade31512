use Rattle.pacing.proofs.Ending.{pieces_drift}
use Rattle.pacing.proofs.Onlys.{one_outcome}
use Rattle.pacing.proofs.Quiet.{all_quiet}
use Rattle.pacing.proofs.laws.law_of_pieces.Goals as goal

pub returns-clause-drifts : goal.returns-clause-drifts
returns-clause-drifts g c =
    let t = c.args._target.now in
    λ quantum k s d e start top is. pieces_drift (g.T.Target.rules t) (g.T.Target.owns t) (g.met.T.Target.laws t) s quantum k d e start top is

pub returns-clause-one : goal.returns-clause-one
returns-clause-one g c = one_outcome (g.T.Target.rules c.args._target.now)

pub returns-clause-quiet : goal.returns-clause-quiet
returns-clause-quiet g c =
    let t = c.args._target.now in
    all_quiet (g.T.Target.rules t) (g.T.Target.owns t) (g.met.T.Target.laws t)
