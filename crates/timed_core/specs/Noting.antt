-- How many cache sets a marked core has noted, and how many it may note.
use Rattle.std.specs.Prelude.{ℕ, ◌≡◌, ◌≤◌, ◌+◌, ◌==◌, ◌&&◌, zero, suc, List, filter, length, nat_le, not, if◌then◌else◌}
use Rattle.slack_base.specs.Inboxes.{CoreValue, tick_by}
use Rattle.timed_core.specs.declared.noted_sets.SetNote.{SetNote}
use Rattle.timed_core.specs.Code.{CodeValue}
use Rattle.timed_core.specs.Cores.{HartValue, is_running}
use Rattle.timed_core.specs.Journals.{restored_cache, restored_touches}
use Rattle.timed_core.specs.Ticks.{applied_all, id_at, stepped, tick}
use Rattle.timed_core.specs.TouchedCaches.{TouchedCache}

-- so many sets were noted since the mark: no more than there are; and the cache at the mark is that of now with so many
-- put back, and its touches are those of now with the same ones put back
pub record AreNotedSince (before after : TouchedCache) (count : ℕ) : Type 0 where
  pub sets : count ≤ length after.cache.sets
  pub journal : List SetNote
  pub length : length journal ≡ count
  pub cache : restored_cache after.cache journal ≡ before.cache
  pub touches : restored_touches after.touches journal ≡ before.touches

-- 1 if a hart to which no post comes executes an instruction in its next cycle, and else 0
abbrev pub executes : HartValue → ℕ
executes core = if is_running core.ended && (core.busy == 0) && not core.waiting then 1 else 0

-- how many instructions a hart executes in k cycles from cycle t on without posts, where asks are of this number in their
-- cycle
abbrev pub executions : CodeValue → (number t k : ℕ) → HartValue → ℕ
executions code number t zero core = 0
executions code number t (suc k) core = executes core + executions code number (t + 1) k (stepped code (id_at t core number) core).0

-- how many posts a core applies in a tick, and how many instructions it executes behind them
abbrev pub work : CodeValue → (cycle : ℕ) → CoreValue HartValue → ℕ
work code cycle core =
    let due = filter (λ p. nat_le p.due cycle) core.inbox in
    length due + executes (applied_all code.base cycle 0 core.inner due).0

-- the same of k ticks from a cycle on, with no new post
abbrev pub works : CodeValue → (from k : ℕ) → CoreValue HartValue → ℕ
works code from zero core = 0
works code from (suc k) core = work code from core + works code (from + 1) k (tick_by (tick code) from core).0
