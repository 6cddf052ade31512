-- Cycles of a core, one after another, with no new post.
use Rattle.std.specs.Prelude.{◌≡◌, ℕ, ◌+◌, ◌-◌, zero, suc, List, [], ◌++◌}
use Rattle.slack_base.specs.declared.messages.Ask.{Ask}
use Rattle.slack_base.specs.Inboxes.{CoreValue, ticks_by}
use Rattle.stamp_queue.specs.Inbox.{next_due}
use Rattle.timed_core.specs.Code.{CodeValue}
use Rattle.timed_core.specs.Cores.{HartValue}
use Rattle.timed_core.specs.Foresight.{rest_of}
use Rattle.timed_core.specs.Outcomes.{ask_of}
use Rattle.timed_core.specs.Ticks.{asks_of, id_at, stepped, tick}
use Rattle.timed_core.specs.declared.harts.stretches.Stretch.{Stretch}

-- k cycles from cycle t on without posts, where asks are of this number in their cycle: the hart after them, and what it
-- asks for, in its order
abbrev pub stretch : CodeValue → (number t k : ℕ) → HartValue → HartValue × List Ask
stretch code number t zero core = (core, [])
stretch code number t (suc k) core =
    let now = stepped code (id_at t core number) core in
    let rest = stretch code number (t + 1) k now.0 in
    (rest.0, asks_of now.1 ++ rest.1)

-- what a stretch from cycle t on came to: the hart after it, of the same number, and what its last cycle came to; the
-- cycles before asked for nothing
pub record IsStretch (code : CodeValue) (number t : ℕ) (old new : HartValue) (end : Stretch) : Type 0 where
  pub after : new ≡ (stretch code number t (end.next - t) old).0
  pub asks : asks_of (ask_of end.outcome (id_at (end.next - 1) new number)) ≡ (stretch code number t (end.next - t) old).1
  pub last : (stretch code number t (end.next - t - 1) old).1 ≡ []
  pub same : new.number ≡ old.number

-- the ticks from cycle t up to another, of which the last alone may have sent something
pub record AreTicks (code : CodeValue) (t next : ℕ) (old new : CoreValue HartValue) (sent out : List Ask) : Type 0 where
  pub after : new ≡ (ticks_by (tick code) t (next - t) old).0
  pub asks : out ≡ sent ++ (ticks_by (tick code) t (next - t) old).1
  pub last : (ticks_by (tick code) t (next - t - 1) old).1 ≡ []

-- so many cycles lead from one hart to the other and ask for nothing, whatever the code and the cycle
abbrev pub IsLeap : (k : ℕ) → HartValue → HartValue → Type 0
IsLeap k old new = (code : CodeValue) (number t : ℕ) → stretch code number t k old ≡ (new, [])

-- for how many cycles from one on a core surely asks for nothing if no post comes: of those up to the cycle at which its first
-- post is due
abbrev pub quiet_of : CodeValue → (from : ℕ) → CoreValue HartValue → ℕ
quiet_of code from core = rest_of code core.inner (next_due core.inbox - from)
