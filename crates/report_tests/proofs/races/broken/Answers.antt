use Rattle.std.proofs.Common.{◌≤◌, arith}
use Rattle.slack_base.specs.Numbers.{numbers_of, lines_of}
use Rattle.lockstep_model.specs.Views.{values_of}
use Rattle.coherence_law.specs.Breaks.{lines_in}
use Rattle.coherence_law.proofs.Sizes.{lines_within}
use Rattle.report_tests.proofs.races.broken.Goals as goal

pub breaks-requires : goal.breaks-requires
breaks-requires c =
    let config = numbers_of c.args._target.now.config in
    let chans = values_of c.args.machine.now.chans in
    let few : lines_in chans ≤ lines_of config = lines_within config c.args._target.now.code chans c.requires.chans in
    omega (arith, few, c.args._target.now.config.memory_in_bounds.3)
