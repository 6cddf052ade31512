use Rattle.leap_run.proofs.Leaping.{all_leaps}
use Rattle.leap_run.proofs.laws.law_of_leaps.Goals as goal

pub returns : goal.returns
returns g c =
    let t = c.args._target.now in
    all_leaps (g.T.Target.rules t) (g.T.Target.owns t) (g.met.T.Target.laws t)
