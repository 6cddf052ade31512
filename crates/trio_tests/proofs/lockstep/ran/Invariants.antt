use Rattle.target_law.specs.Proper.{IsProper, IsPunctual}
use Rattle.target_law.specs.Trio.{trio_rules, trio_owns, trio_values}
use Rattle.target_law.specs.Views.{state_of}
use Rattle.trio_tests.proofs.lockstep.ran.Given as goal

-- the state is the machine's, and no post is late
abbrev pub invariant-loop-step : goal.invariant-loop-step
invariant-loop-step l = IsProper trio_rules trio_owns (state_of trio_values l.state) × IsPunctual (state_of trio_values l.state)
