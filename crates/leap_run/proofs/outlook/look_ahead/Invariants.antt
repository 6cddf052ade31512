use Rattle.leap_run.proofs.Quieting.{LooksAhead}
use Rattle.leap_run.proofs.outlook.look_ahead.Given as goal

-- the outlook of the cores so far
abbrev pub invariant-loop-place : goal.invariant-loop-place
invariant-loop-place g l = LooksAhead (g.T.Target.rules l.target) g.T.Target.values.core l.from l.place l.cores l.ahead.all l.ahead.others l.ahead.lone
