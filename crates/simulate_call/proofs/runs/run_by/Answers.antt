use Rattle.std.proofs.Common.{◌≤◌, arith}
use Rattle.std.proofs.lemmas.List.{length-map}
use Rattle.slack_base.specs.Numbers.{numbers_of, lines_of}
use Rattle.timed_core.specs.Code.{code_of}
use Rattle.lockstep_model.specs.Views.{machine_of}
use Rattle.stat_report.specs.Dump.{lines_in}
use Rattle.coherence_law.proofs.Sizes.{lines_within}
use Rattle.simulate_call.proofs.runs.run_by.Goals as goal

pub returns-clause-cores : goal.returns-clause-cores
returns-clause-cores g c =
    let cores = c.in_ok-ran.ran.machine.cores in
    let room = c.args.order.now.config.cores_in_bounds.1 in
    omega (arith, length-map cores (λ core. core.value), c.in_ok-ran.ensures.proper.core_count, room)

pub returns-clause-lines : goal.returns-clause-lines
returns-clause-lines g c =
    let config = numbers_of c.args.order.now.config in
    let chans = (machine_of c.in_ok-ran.ran.machine).chans in
    let few : lines_in chans ≤ lines_of config = lines_within config (code_of c.args.image.now config) chans c.in_ok-ran.ensures.proper.chans in
    let room = c.args.order.now.config.memory_in_bounds.3 in
    omega (arith, few, room)
