use Rattle.std.proofs.Common.{◌≡◌, ◌+◌, ◌-◌, ◌≤◌, ℕ, [], length}
use Rattle.timed_core.specs.Noting.{executions}
use Rattle.timed_core.specs.Stretches.{stretch}
use Rattle.timed_core.proofs.harts.Hart.long_stretch.Given as goal

-- so far nothing was asked for
abbrev pub invariant-loop-next : goal.invariant-loop-next
invariant-loop-next l = record {
  begun : l.from ≤ l.next;
  within : l.next ≤ l.until;
  same : l.self.value.number ≡ l.initial.self.value.number;
  saved : l.self.saved ≡ l.initial.self.saved;
  noted : (number : ℕ) → length l.self.noted ≤ length l.initial.self.noted + executions l.code number l.from (l.next - l.from) l.initial.self.value;
  silent : (number : ℕ) → stretch l.code number l.from (l.next - l.from) l.initial.self.value ≡ (l.self.value, []);
}

abbrev pub decreases-loop-next : goal.decreases-loop-next
decreases-loop-next l = l.until - l.next
