use Rattle.violation_watch.proofs.Join.{complete}
use Rattle.violation_watch.proofs.laws.law_of_completeness.Goals as goal

pub returns : goal.returns
returns g c = let t = c.args._target.now in complete (g.T.Target.rules t) (g.T.Target.owns t) (g.met.T.Target.laws t)
