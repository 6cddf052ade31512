use Rattle.target_law.specs.Views.{state_of}
use Rattle.target_law.proofs.Exact.{all_end_exactly}
use Rattle.image_run.proofs.modes.run_cycle_by_cycle.Goals as goal

pub returns-clause-ends : goal.returns-clause-ends
returns-clause-ends g c =
    let rules = g.T.Target.rules c.args.target.now in
    let values = g.T.Target.values in
    all_end_exactly rules c.args.interval c.args.limit (state_of values c.args.state) c.new.result (state_of values c.run.new.state) c.requires.begins
    (record { stops = c.in_ok-run.ensures.stops; end = c.in_ok-run.ensures.state; silent = c.new.ensures })
