-- A core that a gate holds alone, and what a drift owes it.
use Rattle.std.specs.Prelude.{◌≡◌, ◌≢◌, ℕ, ◌+◌, ◌<◌, ◌≤◌, List, IsTrue, IsFalse, min, slice_get, Some}
use Rattle.io_edge.specs.Holds.{Holds}
use Rattle.slack_base.specs.declared.messages.Ask.{Ask}
use Rattle.slack_base.specs.Messages.{id_of}

-- in a drift of n cores over k cycles from clock a, with this slack: the core of number c must be held at clock a, and no
-- other core may be held at a clock of the slack
pub record IsHeldAlone (holds : Holds) (n slack a k c : ℕ) : Type 0 where
  pub held : IsTrue (holds.must c a)
  pub free : (other t : ℕ) → other < n → other ≢ c → a ≤ t → t < a + min slack k → IsFalse (holds.may other t)

-- every ask of another core with a cycle below a + slack was served before every ask of a core that is held alone
abbrev pub KeepsHolds : Holds → (n slack a k : ℕ) → (served : List Ask) → Type 0
KeepsHolds holds n slack a k served =
    (c : ℕ) → c < n → IsHeldAlone holds n slack a k c
    → (i j : ℕ) (own early : Ask) → slice_get served i ≡ Some own → slice_get served j ≡ Some early
    → (id_of own).core ≡ c → (id_of early).core ≢ c → (id_of early).cycle < a + slack → j < i
