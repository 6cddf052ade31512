use Rattle.std.proofs.Common.{◌≡◌, length}
use Rattle.timed_core.proofs.noted_sets.NotedSets.forget.Given as goal

abbrev pub invariant-loop : goal.invariant-loop
invariant-loop l = record {
  cache : l.self.cache ≡ l.fn.self.cache;
  touches : l.self.touches ≡ l.fn.self.touches;
  room : l.self.room ≡ l.fn.self.room;
}

abbrev pub decreases-loop : goal.decreases-loop
decreases-loop l = length l.self.journal
