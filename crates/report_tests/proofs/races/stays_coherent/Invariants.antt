use Rattle.std.proofs.Common.{◌≡◌}
use Rattle.slack_base.specs.Numbers.{numbers_of}
use Rattle.target_law.specs.Proper.{IsProper}
use Rattle.lockstep_model.specs.Rules.{owns_of, rules_of}
use Rattle.lockstep_model.specs.Views.{machine_of}
use Rattle.report_tests.proofs.races.stays_coherent.Given as goal

-- the machine is proper, at this clock
abbrev pub invariant-loop-clock : goal.invariant-loop-clock
invariant-loop-clock l = (l.machine.clock ≡ l.clock) × IsProper (rules_of (numbers_of l.target.config) l.target.code) (owns_of (numbers_of l.target.config)) (machine_of l.machine)
