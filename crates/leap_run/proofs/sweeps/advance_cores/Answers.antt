use Rattle.std.proofs.Common.{◌-◌, get_or, arith}
use Rattle.leap_run.proofs.Quieting.{cores_each, quiet_less}
use Rattle.leap_run.proofs.sweeps.advance_cores.Goals as goal

pub advance_alone-requires-clause-cores : goal.advance_alone-requires-clause-cores
advance_alone-requires-clause-cores g c κs within =
    let t = c.args.target.now in
    cores_each (g.T.Target.rules t) (g.T.Target.owns t) g.T.Target.values.core c.args.cores.now c.requires.cores

pub advance_alone-requires-clause-others : goal.advance_alone-requires-clause-others
advance_alone-requires-clause-others g c κs within =
    λ k d low other.
    quiet_less (g.T.Target.rules c.args.target.now) c.args.from (c.min-until.result - c.args.from) c.look_ahead-ahead.result.others (g.T.Target.values.core (get_or c.args.cores.now k d))
    (omega (arith, c.min-until.ensures, c.saturating_add-then-ahead-saturating_add.ensures)) (c.look_ahead-ahead.ensures.others k d low other)

pub returns-then-ahead-saturating_add-clause-reach : goal.returns-then-ahead-saturating_add-clause-reach
returns-then-ahead-saturating_add-clause-reach g c =
    let t = c.args.target.now in
    let soon = (g.met.T.Target.laws t).soon in
    let ahead = c.in_ok-end.ensures.ahead in
    record { quiet = c.in_ok-end.end - c.args.from - 1; silent = c.in_ok-end.ensures.last; soon = omega arith }

pub advance_all-requires-clause-cores : goal.advance_all-requires-clause-cores
advance_all-requires-clause-cores g c κs within =
    let t = c.args.target.now in
    cores_each (g.T.Target.rules t) (g.T.Target.owns t) g.T.Target.values.core c.args.cores.now c.requires.cores

pub returns-clause-reach : goal.returns-clause-reach
returns-clause-reach g c = record { quiet = c.look_ahead-ahead.result.all; silent = c.look_ahead-ahead.ensures.all; soon = omega (arith, c.horizon-end.ensures, c.lookahead-lookahead.ensures) }
