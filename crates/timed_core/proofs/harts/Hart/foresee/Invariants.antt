use Rattle.std.proofs.Common.{◌≡◌, ◌+◌, ◌*◌, ◌^◌, ◌≤◌}
use Rattle.timed_core.specs.Foresight.{cycles_ahead, here}
use Rattle.timed_core.proofs.harts.Hart.foresee.Given as goal

abbrev pub invariant-loop-left : goal.invariant-loop-left
invariant-loop-left l = record {
  total : l.cycles + cycles_ahead l.code l.self.value l.left l.at ≡ l.self.value.busy + cycles_ahead l.code l.self.value 64 (here l.self.value);
  small : l.cycles + 16 * l.left ≤ 2 ^ 33;
}

abbrev pub decreases-loop-left : goal.decreases-loop-left
decreases-loop-left l = l.left
