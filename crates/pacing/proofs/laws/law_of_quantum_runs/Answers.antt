use Rattle.pacing.proofs.Once.{one_run}
use Rattle.pacing.proofs.laws.law_of_quantum_runs.Goals as goal

pub returns : goal.returns
returns g c = one_run (g.T.Target.rules c.args._target.now)
