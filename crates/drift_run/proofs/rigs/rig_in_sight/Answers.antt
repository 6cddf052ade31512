use Rattle.std.proofs.Common.{sym, subst}
use Rattle.target_law.specs.InSight.{rules_in_sight, owns_in_sight}
use Rattle.target_law.specs.Proper.{IsProper}
use Rattle.drift_run.proofs.Marked.{in_sight, proper_before}
use Rattle.drift_run.proofs.rigs.rig_in_sight.Goals as goal

pub make_rig-requires-clause-proper : goal.make_rig-requires-clause-proper
make_rig-requires-clause-proper g c κs within =
    let s = c.args.state in
    subst (λ t. IsProper (rules_in_sight (g.T.Target.rules t)) (owns_in_sight (g.T.Target.owns t)) (in_sight (g.T.Target.rules t) (g.T.Target.owns t) g.T.Target.values s.clock s.cores s.chans)) (sym c.of.ensures)
    (proper_before (g.T.Target.rules c.args.target.now) (g.T.Target.owns c.args.target.now) g.T.Target.values s.clock s.cores s.chans c.requires.proper)
