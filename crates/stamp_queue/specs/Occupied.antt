-- Which of the 256 slots of a wheel hold posts, and which of them comes next round the wheel.
use Rattle.std.specs.Prelude.{◌≡◌, ◌≢◌, ℕ, ◌+◌, ◌-◌, ◌/◌, ◌%◌, ◌<◌, ◌≤◌, slice_index}
use Rattle.std.specs.Int.{bit_at}
use Rattle.stamp_queue.specs.declared.inbox.occupied.Occupied.{Occupied}

-- 1 where the slot holds a post, 0 where it holds none
abbrev pub mark_at : Occupied → ℕ → ℕ
mark_at o slot = bit_at (slice_index o.words (slot / 64)) (slot % 64)

-- all other slots are as they were
abbrev pub KeepsOthers : Occupied → Occupied → ℕ → Type 0
KeepsOthers a b slot = (k : ℕ) → k < 256 → k ≢ slot → mark_at b k ≡ mark_at a k

-- no slot from one on, and before another, holds a post
abbrev pub NoneWithin : Occupied → ℕ → ℕ → Type 0
NoneWithin o from end = (k : ℕ) → from ≤ k → k < end → mark_at o k ≡ 0

-- the first slot from one on that holds a post
abbrev pub IsNextFrom : Occupied → ℕ → ℕ → Type 0
IsNextFrom o from slot = (from ≤ slot) × (slot < 256) × (mark_at o slot ≡ 1) × NoneWithin o from slot

-- how far round the wheel a slot is from another
abbrev pub round : ℕ → ℕ → ℕ
round from slot = (slot + 256 - from) % 256

-- of the slots that hold posts, the nearest round the wheel
abbrev pub IsNextRound : Occupied → ℕ → ℕ → Type 0
IsNextRound o from slot = (slot < 256) × (mark_at o slot ≡ 1) × ((k : ℕ) → k < 256 → mark_at o k ≡ 1 → round from slot ≤ round from k)
