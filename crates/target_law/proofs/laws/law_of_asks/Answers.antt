use Rattle.target_law.proofs.Orders.{all_cycles_rise, all_asks_rise}
use Rattle.target_law.proofs.laws.law_of_asks.Goals as goal

pub returns-clause-one : goal.returns-clause-one
returns-clause-one g c = let t = c.args._target.now in all_cycles_rise (g.T.Target.rules t) (g.T.Target.owns t) (g.met.T.Target.laws t)

pub returns-clause-many : goal.returns-clause-many
returns-clause-many g c = let t = c.args._target.now in all_asks_rise (g.T.Target.rules t) (g.T.Target.owns t) (g.met.T.Target.laws t)
