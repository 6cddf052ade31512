use Rattle.drive_script.proofs.Ending.{script_drifts}
use Rattle.drive_script.proofs.Onlys.{all_one_script}
use Rattle.drive_script.proofs.laws.law_of_scripts.Goals as goal

pub returns-clause-drifts : goal.returns-clause-drifts
returns-clause-drifts g c =
    let t = c.args._target.now in
    λ s k steps d e start top is. script_drifts (g.T.Target.rules t) (g.T.Target.owns t) (g.met.T.Target.laws t) s k start steps d e top is

pub returns-clause-one : goal.returns-clause-one
returns-clause-one g c = all_one_script (g.T.Target.rules c.args._target.now)
