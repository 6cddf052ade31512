use Rattle.target_law.proofs.Alone.{all_one_end}
use Rattle.target_law.proofs.laws.law_of_ends.Goals as goal

pub returns : goal.returns
returns g c = all_one_end (g.T.Target.rules c.args._target.now)
