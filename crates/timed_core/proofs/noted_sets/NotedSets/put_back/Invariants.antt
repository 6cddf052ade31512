use Rattle.std.proofs.Common.{◌≡◌, length}
use Rattle.timed_core.specs.Journals.{restored, restored_touches}
use Rattle.timed_core.proofs.noted_sets.NotedSets.put_back.Given as goal

-- what is left of the journal leads to the same sets and touches
abbrev pub invariant-loop-note : goal.invariant-loop-note
invariant-loop-note l = record {
  sets : restored l.self.cache.sets l.self.journal ≡ restored l.fn.self.cache.sets l.fn.self.journal;
  touches : restored_touches l.self.touches l.self.journal ≡ restored_touches l.fn.self.touches l.fn.self.journal;
  ways : l.self.cache.ways ≡ l.fn.self.cache.ways;
  room : l.self.room ≡ l.fn.self.room;
}

abbrev pub decreases-loop-note : goal.decreases-loop-note
decreases-loop-note l = length l.self.journal
