use Rattle.std.proofs.Common.{◌≡◌, sym, ap, subst, arith}
use Rattle.target_law.specs.Cycles.{StateValue}
use Rattle.target_law.specs.Proper.{IsProper}
use Rattle.target_law.specs.Trio.{TrioInner, TrioChannel, trio_rules, trio_owns, trio_values}
use Rattle.target_law.specs.Views.{state_of}
use Rattle.trio_tests.proofs.marks.taken_back.Goals as goal

pub run_to-requires-2-clause-order : goal.run_to-requires-2-clause-order
run_to-requires-2-clause-order c κs =
    let same = c.restore.ensures.state (state_of trio_values c.run_to.new.state) (sym c.in_ok-checkpoint.ensures.clock) c.in_ok-checkpoint.ensures.marked in
    let clock = ap (λ (s : StateValue TrioInner TrioChannel). s.clock) same in
    let six = c.in_ok-run_to.ensures.clock in
    omega (arith, clock, six)

pub run_to-requires-2-clause-proper : goal.run_to-requires-2-clause-proper
run_to-requires-2-clause-proper c κs =
    subst (IsProper trio_rules trio_owns)
    (sym (c.restore.ensures.state (state_of trio_values c.run_to.new.state) (sym c.in_ok-checkpoint.ensures.clock) c.in_ok-checkpoint.ensures.marked))
    c.in_ok-run_to.ensures.proper
