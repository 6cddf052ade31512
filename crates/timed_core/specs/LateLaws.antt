-- What a late Invalidate comes to, where the core touched its set no more.
use Rattle.std.specs.Prelude.{ℕ, ◌≡◌, ◌<◌, ◌≤◌, ◌⊎◌, List, ◌∷◌, ◌++◌}
use Rattle.std.specs.List.{AllByRecursion}
use Rattle.slack_base.specs.declared.configs.RawConfig.{RawConfig}
use Rattle.slack_base.specs.declared.messages.Ask.{Ask}
use Rattle.slack_base.specs.declared.messages.Post.{Post}
use Rattle.slack_base.specs.declared.messages.PostKind.TheVariants.{Invalidate}
use Rattle.slack_base.specs.Inboxes.{CoreValue, with_put, tick_by}
use Rattle.timed_core.specs.Code.{CodeValue}
use Rattle.timed_core.specs.Cores.{HartValue}
use Rattle.timed_core.specs.Laws.{IsSoundHart}
use Rattle.timed_core.specs.Posts.{given_up}
use Rattle.timed_core.specs.Ticks.{applied_all, tick}
use Rattle.timed_core.specs.Touches.{touched_of}

-- ticks at clock t of a core with this post, an Invalidate, and without it
module _ (code : CodeValue) (t : ℕ) (core : HartValue) (p : Post) where
  -- the hart without the post's line, and the same asks
  abbrev pub without_line : HartValue × List Ask → HartValue × List Ask
  without_line out = (given_up code.base p.line out.0, out.1)

  -- the core with these posts waiting for it, and without the line
  abbrev pub with_inbox : List Post → CoreValue HartValue
  with_inbox inbox = record { inner = core; inbox = inbox }

  abbrev pub lacking : CoreValue HartValue → CoreValue HartValue
  lacking c = record c { inner = given_up code.base p.line c.inner }

  pub record MayBeLate : Type 0 where
    -- where the set's touch is no later than an earlier clock after the tick, it was so before the tick
    pub back : (d : ℕ) (due : List Post) → d ≤ t → touched_of (tick code core t due).0 p ≤ d → touched_of core p ≤ d
    -- a tick that doesn't touch the set is the same without the line
    pub passes : (due : List Post) → touched_of (tick code core t due).0 p ≤ t → tick code (given_up code.base p.line core) t due ≡ without_line (tick code core t due)
    -- behind posts that don't touch the set, the Invalidate is as if it had come before the tick
    pub early : (us vs : List Post) → touched_of (applied_all code.base t 0 core us).0 p ≤ t
        → tick code core t (us ++ p ∷ vs) ≡ tick code (given_up code.base p.line core) t (us ++ vs)
    -- in a tick that doesn't touch the set, it is as if it came after the tick
    pub late : (us vs : List Post) → touched_of (tick code core t (us ++ vs)).0 p ≤ t
        → tick code core t (us ++ p ∷ vs) ≡ without_line (tick code core t (us ++ vs))
    -- so it is with a core for which it waits, in the tick at which it is due
    pub in_time : (inbox : List Post) → p.due ≡ t → touched_of (tick_by (tick code) t (with_inbox inbox)).0.inner p ≤ t
        → tick_by (tick code) t (with_put p (with_inbox inbox)) ≡ (lacking (tick_by (tick code) t (with_inbox inbox)).0, (tick_by (tick code) t (with_inbox inbox)).1)
    -- a core that takes it late, while every other post that waits is an Invalidate or due later, is as without the line
    pub after_due : (inbox : List Post) → p.due ≤ t → AllByRecursion (λ q. (q.kind ≡ Invalidate) ⊎ (p.due < q.due)) inbox
        → tick_by (tick code) t (with_put p (with_inbox inbox)) ≡ tick_by (tick code) t (lacking (with_inbox inbox))

-- every Invalidate among the posts of a tick of a sound hart, whose cache has sets
abbrev pub AllLate : Type 0
AllLate =
    (code : CodeValue) (config : RawConfig) (t : ℕ) (core : HartValue) (p : Post)
    → 1 ≤ config.sets → IsSoundHart config core → p.kind ≡ Invalidate → MayBeLate code t core p
