use Rattle.target_law.proofs.Kept.{all_cycles}
use Rattle.target_law.proofs.laws.law_of_cycles.Goals as goal

pub returns : goal.returns
returns g c = let t = c.args._target.now in all_cycles (g.T.Target.rules t) (g.T.Target.owns t) (g.met.T.Target.laws t)
