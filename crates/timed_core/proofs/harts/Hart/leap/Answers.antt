use Rattle.std.proofs.Common.{sym, ap, subst, arith, rules}
use Rattle.timed_core.specs.Stretches.{IsLeap}
use Rattle.timed_core.specs.Views.{NotedHart}
use Rattle.timed_core.proofs.Stretches.{ended_leap, busy_leap, waits_leap}
use Rattle.timed_core.proofs.harts.Hart.leap.Goals as goal

pub returns-then-not-is_running-clause-leap : goal.returns-then-not-is_running-clause-leap
returns-then-not-is_running-clause-leap c = ended_leap c.args.most c.args.self.now.value (search rules)

pub returns-then-self-gt0-clause-leap : goal.returns-then-self-gt0-clause-leap
returns-then-self-gt0-clause-leap c =
    subst (IsLeap c.min-spent.result c.args.self.now.value) (sym (ap (λ (h : NotedHart). h.value) c.spend.ensures)) (busy_leap c.min-spent.result c.args.self.now.value (search rules) (grind arith))

pub returns-then-self-clause-leap : goal.returns-then-self-clause-leap
returns-then-self-clause-leap c =
    subst (IsLeap c.args.most c.args.self.now.value) (sym (ap (λ (h : NotedHart). h.value) c.wait.ensures)) (waits_leap c.args.most c.args.self.now.value c.requires (search rules) (search rules) (search rules))
