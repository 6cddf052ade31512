-- What a target is: a machine of cores and channels, as functions and tests of values.
use Rattle.std.specs.Prelude.{ℕ, Bool, List, Option}
use Rattle.slack_base.specs.declared.messages.Ask.{Ask}
use Rattle.slack_base.specs.declared.messages.Post.{Post}
use Rattle.slack_base.specs.declared.stamps.Id.{Id}

-- over all of a core's value but its inbox, and a channel's value
pub record Rules (Inner Chan : Type 0) : Type 0 where
  -- how many cores and channels there are
  pub cores : ℕ
  pub channels : ℕ
  -- the least number of cycles from an ask to a post that it causes
  pub lookahead : ℕ
  -- the number of a core, and of a channel
  pub core_number : Inner → ℕ
  pub chan_number : Chan → ℕ
  -- the asks that the machine's cores may send, and the posts that its channels may send
  pub is_proper_ask : Ask → Bool
  pub is_proper_post : Post → Bool
  -- the number of the channel that an ask is of
  pub channel_of : Ask → ℕ
  -- a tick at a clock, with the posts that are due in their order: the core after it, and the asks that it sends in
  -- their order
  pub tick : Inner → ℕ → List Post → Inner × List Ask
  -- the serving of an ask: the channel after it, and the posts that it sends in their order
  pub serve : Chan → Ask → Chan × List Post
  -- the id that the ask would be out of order with if it were served now, if there is one
  pub clash : Chan → Ask → Option Id
  -- the channel closed: what it noted to tell clashes is forgotten
  pub close : Chan → Chan
  -- a cycle from which on the core touched nothing of what the post is about
  pub touched : Inner → Post → ℕ
  -- the core has ended
  pub has_ended : Inner → Bool

-- the values that are the machine's own, which may be fewer than the types hold
pub record Owns (Inner Chan : Type 0) : Type 1 where
  pub core : Inner → Type 0
  pub chan : Chan → Type 0
