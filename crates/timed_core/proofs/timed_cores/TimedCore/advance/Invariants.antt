use Rattle.std.proofs.Common.{◌≡◌, ◌+◌, ◌-◌, ◌≤◌, length}
use Rattle.timed_core.specs.Noting.{works}
use Rattle.timed_core.proofs.Stretches.{AreTicksSoFar}
use Rattle.timed_core.proofs.timed_cores.TimedCore.advance.Given as goal

abbrev pub invariant-loop-next : goal.invariant-loop-next
invariant-loop-next l = record {
  begun : l.from ≤ l.next;
  within : l.next ≤ l.until;
  ticks : AreTicksSoFar l.code l.from l.next l.initial.self.value l.self.value l.initial.out l.out;
  saved : l.self.saved ≡ l.initial.self.saved;
  noted : length l.self.noted ≤ length l.initial.self.noted + works l.code l.from (l.next - l.from) l.initial.self.value;
}

abbrev pub decreases-loop-next : goal.decreases-loop-next
decreases-loop-next l = l.until - l.next
