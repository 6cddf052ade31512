use Rattle.std.proofs.Common.{◌≡◌, ◌≤◌, drop, length}
use Rattle.first_memory.specs.Memory.{reach}
use Rattle.first_memory.proofs.loading.lines_reached.Given as goal

-- the segments from `place` on reach so many bytes
abbrev pub invariant-loop-place : goal.invariant-loop-place
invariant-loop-place l =
    record {
      within : l.place ≤ length l.segments;
      memory : l.reached ≤ l.memory;
      reached : l.reached ≡ reach (drop l.place l.segments) l.base;
    }

abbrev pub decreases-loop-place : goal.decreases-loop-place
decreases-loop-place l = l.place
