use Rattle.target_law.proofs.Exact.{all_exact_ends, all_end_exactly}
use Rattle.target_law.proofs.laws.law_of_exact_runs.Goals as goal

pub returns-clause-ends : goal.returns-clause-ends
returns-clause-ends g c = all_exact_ends (g.T.Target.rules c.args._target.now)

pub returns-clause-end_exactly : goal.returns-clause-end_exactly
returns-clause-end_exactly g c = all_end_exactly (g.T.Target.rules c.args._target.now)
