use Rattle.checkpoint.proofs.Staying.{still_marked}
use Rattle.lockstep_model.specs.Rules.{stored_values}
use Rattle.lockstep_model.specs.Views.{machine_of}
use Rattle.drift_tests.proofs.marks.drift_away.Goals as goal

pub returns : goal.returns
returns c =
    record { marked = still_marked stored_values (machine_of c.args.machine) c.take.new.state c.in_ok-drifted.drifted.end c.in_ok-checkpoint.ensures.marked c.in_ok-drifted.ensures.marks }
