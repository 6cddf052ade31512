-- What a core does by itself, with the posts that it takes at each clock.
use Rattle.std.specs.Prelude.{ℕ, ◌+◌, Bool, true, false, List, [], ◌∷◌, ◌++◌, zero, suc}
use Rattle.slack_base.specs.declared.messages.Ask.{Ask}
use Rattle.slack_base.specs.declared.messages.Post.{Post}
use Rattle.slack_base.specs.declared.messages.PostKind.{PostKind}
use Rattle.slack_base.specs.declared.messages.PostKind.TheVariants.{Reply, Retry, SnoopShare, SnoopOwn, Invalidate}
use Rattle.slack_base.specs.Inboxes.{CoreValue, with_post}
use Rattle.target_law.specs.Cycles.{tick_of}
use Rattle.target_law.specs.Rules.{Rules}

-- the inbox with one post more after another
abbrev pub with_posts : List Post → List Post → List Post
with_posts inbox [] = inbox
with_posts inbox (p ∷ posts) = with_posts (with_post inbox p) posts

-- the core with posts put into its inbox, one after another
abbrev pub with_puts : {Inner : Type 0} → CoreValue Inner → List Post → CoreValue Inner
with_puts core posts = record core { inbox = with_posts core.inbox posts }

abbrev pub is_invalidate : PostKind → Bool
is_invalidate (Reply exclusive words) = false
is_invalidate Retry = false
is_invalidate SnoopShare = false
is_invalidate SnoopOwn = false
is_invalidate Invalidate = true

module _ {Inner Chan : Type 0} (rules : Rules Inner Chan) where
  -- a core by itself in k cycles from clock a, with the posts that it takes at each clock: it takes them and ticks; last,
  -- it takes those of the end's clock. The core at the end, and its asks
  abbrev pub alone_by : (a k : ℕ) → CoreValue Inner → (ℕ → List Post) → CoreValue Inner × List Ask
  alone_by a zero core taken = (with_puts core (taken a), [])
  alone_by a (suc k) core taken =
      let now = tick_of rules a (with_puts core (taken a)) in
      let rest = alone_by (a + 1) k now.0 taken in
      (rest.0, now.1 ++ rest.1)
