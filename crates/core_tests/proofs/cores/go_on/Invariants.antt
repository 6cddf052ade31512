use Rattle.std.proofs.Common.{◌≡◌}
use Rattle.core_tests.proofs.cores.go_on.Given as goal

abbrev pub invariant-loop-cycle : goal.invariant-loop-cycle
invariant-loop-cycle g l = l.core.saved ≡ l.initial.core.saved
