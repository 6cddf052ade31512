-- An inbox as the posts on its wheel and those off it.
use Rattle.std.specs.Prelude.{◌≡◌, ℕ, List, [], ◌∷◌, length}
use Rattle.std.specs.List.{AllByRecursion}
use Rattle.slack_base.specs.declared.messages.Post.{Post}
use Rattle.slack_base.specs.Inboxes.{with_post}
use Rattle.stamp_queue.specs.Inbox.{IsInOrder, next_due}
use Rattle.stamp_queue.specs.Merged.{with_posts}
use Rattle.stamp_queue.specs.OffWheel.{NoneHasDue}

-- both lists are in order, and no due stands in both
pub record IsSplit (on off : List Post) : Type 0 where
  pub on_order : IsInOrder on
  pub off_order : IsInOrder off
  pub apart : AllByRecursion (λ p. NoneHasDue off p.due) on

-- and the first due of all posts is kept, and their count
pub record IsWhole (on off : List Post) (first count : ℕ) : Type 0 where
  pub split : IsSplit on off
  pub least : first ≡ next_due (with_posts off on)
  pub counted : count ≡ length (with_posts off on)

-- a post is put into one of the two
pub record IsPut (on off on_now off_now : List Post) (p : Post) : Type 0 where
  pub split : IsSplit on_now off_now
  pub list : with_posts off_now on_now ≡ with_post (with_posts off on) p

-- the first post of the two is taken out of the one in which it stands
pub record IsTaken (on off on_now off_now : List Post) (p : Post) : Type 0 where
  pub split : IsSplit on_now off_now
  pub list : with_posts off on ≡ p ∷ with_posts off_now on_now

-- both are as they were
abbrev pub AreSame : (on off on_now off_now : List Post) → Type 0
AreSame on off on_now off_now = (on_now ≡ on) × (off_now ≡ off)

-- there is no post, and both are as they were
abbrev pub IsNoneTaken : (on off on_now off_now : List Post) → Type 0
IsNoneTaken on off on_now off_now = (with_posts off on ≡ []) × AreSame on off on_now off_now
