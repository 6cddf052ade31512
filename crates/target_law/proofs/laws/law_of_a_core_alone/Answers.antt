use Rattle.target_law.proofs.Alone.{all_literal, all_one_outcome}
use Rattle.target_law.proofs.laws.law_of_a_core_alone.Goals as goal

pub returns-clause-clocks : goal.returns-clause-clocks
returns-clause-clocks g c = all_literal (g.T.Target.rules c.args._target.now)

pub returns-clause-one : goal.returns-clause-one
returns-clause-one g c = all_one_outcome (g.T.Target.rules c.args._target.now)
