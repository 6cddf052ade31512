use Rattle.manager.proofs.Opened.{all_ready_openings}
use Rattle.manager.proofs.laws.law_of_openings.Goals as goal

pub returns : goal.returns
returns g c =
    let t = c.args._target.now in
    all_ready_openings (g.T.Target.rules t) (g.T.Target.owns t) g.T.Target.values
