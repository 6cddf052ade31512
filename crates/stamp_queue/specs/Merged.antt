-- Posts put one after another into a list in order.
use Rattle.std.specs.Prelude.{ℕ, zero, suc, List, [], ◌∷◌}
use Rattle.slack_base.specs.declared.messages.Post.{Post}
use Rattle.slack_base.specs.Inboxes.{with_post}

-- the list with each of the posts put into its place
abbrev pub with_posts : List Post → List Post → List Post
with_posts inbox [] = inbox
with_posts inbox (p ∷ posts) = with_posts (with_post inbox p) posts

-- the posts of the first n slots, in order
unfoldable pub with_slots : (ℕ → List Post) → ℕ → List Post
with_slots posts zero = []
with_slots posts (suc n) = with_posts (with_slots posts n) (posts n)
