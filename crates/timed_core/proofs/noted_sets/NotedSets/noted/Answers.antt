use Rattle.std.proofs.Common.{◌≤◌, length, subst, arith}
use Rattle.timed_core.specs.Journals.{SetsValue}
use Rattle.timed_core.proofs.Flagging.{count_up-most}
use Rattle.timed_core.proofs.noted_sets.NotedSets.noted.Goals as goal

pub returns-clause-few : goal.returns-clause-few
returns-clause-few c =
    subst (λ (v : SetsValue). c.len.result ≤ length v.cache.sets) c.self.view_is
    (omega (arith, c.len.ensures, c.self.invariant.0.few, c.self.invariant.0.each, count_up-most c.self.inside.flags.items))
