use Rattle.target_law.proofs.Running.{all_stop_once}
use Rattle.target_law.proofs.laws.law_of_stops.Goals as goal

pub returns : goal.returns
returns g c = all_stop_once (g.T.Target.rules c.args._target.now)
