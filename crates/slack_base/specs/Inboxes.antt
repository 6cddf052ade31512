-- A core as its posts and its ticks see it: an inner value, and the posts that wait for it in order of (due, id).
use Rattle.std.specs.Prelude.{ℕ, ◌+◌, ◌==◌, ◌&&◌, ◌||◌, Bool, List, [], ◌∷◌, ◌++◌, filter, nat_le, nat_lt, zero, suc, if◌then◌else◌}
use Rattle.slack_base.specs.declared.messages.Ask.{Ask}
use Rattle.slack_base.specs.declared.messages.Post.{Post}
use Rattle.slack_base.specs.Stamps.{is_above}

-- all that the core's ticks read and change, and the posts that wait for it
pub record CoreValue (Inner : Type 0) : Type 0 where
  pub inner : Inner
  pub inbox : List Post

-- the post comes later than the other, by (due, id)
abbrev pub is_later : Post → Post → Bool
is_later q p = nat_lt p.due q.due || ((p.due == q.due) && is_above q.id p.id)

-- the inbox with one more post, behind those that are no later
abbrev pub with_post : List Post → Post → List Post
with_post [] p = p ∷ []
with_post (q ∷ inbox) p = if is_later q p then p ∷ q ∷ inbox else q ∷ with_post inbox p

module _ {Inner : Type 0} where
  -- the core with a post put into its inbox
  abbrev pub with_put : Post → CoreValue Inner → CoreValue Inner
  with_put p core = record core { inbox = with_post core.inbox p }

  -- a tick at a clock, over what ticks do to an inner value and the posts that are due in their order: the core after
  -- it, and the asks that it sends in their order. It takes the due posts out of the inbox
  abbrev pub tick_by : (Inner → ℕ → List Post → Inner × List Ask) → ℕ → CoreValue Inner → CoreValue Inner × List Ask
  tick_by tick t core =
      let ticked = tick core.inner t (filter (λ p. nat_le p.due t) core.inbox) in
      (record { inner = ticked.0; inbox = filter (λ p. nat_lt t p.due) core.inbox }, ticked.1)

  -- k ticks from clock t on, one after another, with no new post: the core after them, and the asks that it sends, in the
  -- order in which it sends them
  abbrev pub ticks_by : (Inner → ℕ → List Post → Inner × List Ask) → (t k : ℕ) → CoreValue Inner → CoreValue Inner × List Ask
  ticks_by tick t zero core = (core, [])
  ticks_by tick t (suc k) core =
      let now = tick_by tick t core in
      let rest = ticks_by tick (t + 1) k now.0 in
      (rest.0, now.1 ++ rest.1)
