use Rattle.core_actor.proofs.Goes.{all_begin}
use Rattle.core_actor.proofs.laws.law_of_beginnings.Goals as goal

pub returns : goal.returns
returns g c = all_begin (g.T.Target.rules c.args._target.now) (g.T.Target.owns c.args._target.now) g.T.Target.values
