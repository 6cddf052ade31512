use Rattle.target_law.proofs.Loops.{all_ended-map}
use Rattle.target_law.proofs.cycles.stopped.Goals as goal

pub returns : goal.returns
returns g c = all_ended-map (g.T.Target.rules c.args.target.now) g.T.Target.values.core c.args.state.now.cores c.as_slice.result.now c.all_have_ended.result c.as_slice.ensures c.all_have_ended.ensures
