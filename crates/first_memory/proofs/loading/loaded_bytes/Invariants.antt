use Rattle.std.proofs.Common.{◌≡◌, ◌+◌, ◌<◌, ◌≤◌, ℕ, drop, length, get_or}
use Rattle.first_memory.specs.Memory.{byte_at}
use Rattle.first_memory.proofs.loading.loaded_bytes.Given as goal

-- the bytes are those of the segments from `left` on
abbrev pub invariant-loop-left : goal.invariant-loop-left
invariant-loop-left l =
    record {
      within : l.left ≤ length l.segments;
      count : length l.bytes.items ≡ l.count;
      held : (k : ℕ) → k < l.count → get_or l.bytes.items k 0 ≡ byte_at (drop l.left l.segments) (l.base + k);
    }

abbrev pub decreases-loop-left : goal.decreases-loop-left
decreases-loop-left l = l.left
