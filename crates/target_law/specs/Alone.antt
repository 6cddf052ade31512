-- What a core does alone: it takes posts at its clock, and ticks.
use Rattle.std.specs.Prelude.{ℕ, ◌+◌, List, [], ◌∷◌, ◌++◌, zero, suc, if◌then◌else◌}
use Rattle.slack_base.specs.declared.histories.Taken.{Taken}
use Rattle.slack_base.specs.declared.messages.Ask.{Ask}
use Rattle.slack_base.specs.declared.messages.Post.{Post}
use Rattle.slack_base.specs.Inboxes.{CoreValue, with_put}
use Rattle.target_law.specs.Cycles.{tick_of}
use Rattle.target_law.specs.Rules.{Rules}
use Rattle.target_law.specs.Schedules.{is_invalidate}

module _ {Inner Chan : Type 0} (rules : Rules Inner Chan) where
  -- the target's touch for an Invalidate, and 0 for every other post
  abbrev pub touch_of : Inner → Post → ℕ
  touch_of inner p = if is_invalidate p.kind then rules.touched inner p else 0

  -- a post taken at a clock, with the core's touch just before
  abbrev pub taking : ℕ → Inner → Post → Taken
  taking clock inner p = record { post = p; clock = clock; touched = touch_of inner p }

  -- from a core at clock a: after k ticks and these posts, the core is this one, and the ticks sent these asks
  pub data Alone (core : CoreValue Inner) (a : ℕ) : (k : ℕ) → List Taken → CoreValue Inner → List Ask → Type 0 where
    begins : Alone core a zero [] core []
    takes : {k : ℕ} {taken : List Taken} {now : CoreValue Inner} {asks : List Ask} (p : Post)
        → Alone core a k taken now asks → Alone core a k (taken ++ taking (a + k) now.inner p ∷ []) (with_put p now) asks
    ticks : {k : ℕ} {taken : List Taken} {now : CoreValue Inner} {asks : List Ask}
        → Alone core a k taken now asks → Alone core a (suc k) taken (tick_of rules (a + k) now).0 (asks ++ (tick_of rules (a + k) now).1)
