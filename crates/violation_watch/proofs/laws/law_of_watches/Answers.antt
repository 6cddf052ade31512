use Rattle.violation_watch.proofs.Scanning.{all_watches_scan}
use Rattle.violation_watch.proofs.laws.law_of_watches.Goals as goal

pub returns : goal.returns
returns g c = all_watches_scan (g.T.Target.rules c.args._target.now)
