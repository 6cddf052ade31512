use Rattle.slack_base.specs.Numbers.{numbers_of}
use Rattle.lockstep_model.proofs.FirstState.{whole_code}
use Rattle.lockstep_model.proofs.rv_targets.RvTarget.make.Goals as goal

pub invariant_of-result : goal.invariant_of-result
invariant_of-result c = record { whole = whole_code c.in_ok-code.code c.args.image.now (numbers_of c.args.config) c.in_ok-code.ensures }
