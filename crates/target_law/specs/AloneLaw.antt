-- What the relation of a core alone says clock by clock; that it has one outcome, and a drift one end.
use Rattle.std.specs.Prelude.{ℕ, ◌+◌, ◌≡◌, ◌≤◌, ◌==◌, List, [], ◌∷◌, map, filter}
use Rattle.std.specs.List.{AllByRecursion as Each}
use Rattle.slack_base.specs.declared.histories.Drift.{Drift}
use Rattle.slack_base.specs.declared.histories.Taken.{Taken}
use Rattle.slack_base.specs.declared.messages.Ask.{Ask}
use Rattle.slack_base.specs.declared.messages.Post.{Post}
use Rattle.slack_base.specs.Inboxes.{CoreValue}
use Rattle.target_law.specs.Alone.{Alone, touch_of}
use Rattle.target_law.specs.Cycles.{StateValue}
use Rattle.target_law.specs.Drifts.{IsDrift}
use Rattle.target_law.specs.Rules.{Rules}
use Rattle.target_law.specs.Schedules.{alone_by}

-- the posts that were taken at this clock, in their order
abbrev pub taken_at : ℕ → List Taken → List Post
taken_at t taken = map (λ x. x.post) (filter (λ x. x.clock == t) taken)

-- the clocks never fall, and lie from low to high
abbrev pub AreClocks : (low high : ℕ) → List Taken → Type 0
AreClocks low high [] = Unit {0}
AreClocks low high (x ∷ taken) = (low ≤ x.clock) × (x.clock ≤ high) × AreClocks x.clock high taken

module _ {Inner Chan : Type 0} (rules : Rules Inner Chan) where
  -- a core at clock a and k ticks, read literally: at each clock it takes the posts of this clock in their order and
  -- ticks; last, it takes those of clock a + k. The core at the end, and its asks
  abbrev pub alone : (a k : ℕ) → CoreValue Inner → List Taken → CoreValue Inner × List Ask
  alone a k core taken = alone_by rules a k core (λ t. taken_at t taken)

  -- what the core came to, the asks that it sent and the posts that it took are those of the literal reading
  pub record IsLiteral (core : CoreValue Inner) (a k : ℕ) (taken : List Taken) (now : CoreValue Inner) (asks : List Ask) : Type 0 where
    pub end : now ≡ (alone a k core taken).0
    pub sent : asks ≡ (alone a k core taken).1
    pub clocks : AreClocks a (a + k) taken
    -- each touch is that of the core as it took the post; what else it takes at this clock changes nothing of it
    pub touches : (j : ℕ) → j ≤ k
        → Each (λ x. x.clock ≡ a + j → x.touched ≡ touch_of rules (alone a j core taken).0.inner x.post) taken

  abbrev pub AllLiteral : Type 0
  AllLiteral =
      (core : CoreValue Inner) (a k : ℕ) (taken : List Taken) (now : CoreValue Inner) (asks : List Ask)
      → Alone rules core a k taken now asks → IsLiteral core a k taken now asks

  -- by the same posts a core comes to one value and sends one list of asks
  abbrev pub AllOneOutcome : Type 0
  AllOneOutcome =
      (core : CoreValue Inner) (a k : ℕ) (taken : List Taken) (now other : CoreValue Inner) (asks others : List Ask)
      → Alone rules core a k taken now asks → Alone rules core a k taken other others → (now ≡ other) × (asks ≡ others)

  -- a history leads a state to one state
  abbrev pub AllOneEnd : Type 0
  AllOneEnd = (s : StateValue Inner Chan) (d : Drift) (e f : StateValue Inner Chan) → IsDrift rules s d e → IsDrift rules s d f → e ≡ f
