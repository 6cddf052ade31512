-- The posts that wait for a core, in the order in which it applies them.
use Rattle.std.specs.Prelude.{◌≡◌, ℕ, ◌^◌, ◌-◌, true, false, List, [], ◌∷◌, ◌++◌}
use Rattle.std.specs.List.{AllByRecursion}
use Rattle.slack_base.specs.declared.messages.Post.{Post}
use Rattle.slack_base.specs.Inboxes.{is_later}

-- no post comes later than one that stands behind it
abbrev pub IsInOrder : List Post → Type 0
IsInOrder [] = Unit {0}
IsInOrder (p ∷ inbox) = AllByRecursion (λ q. is_later p q ≡ false) inbox × IsInOrder inbox

-- the new list is the old one with the post in between: behind all that are no later, equal ones too, and before all
-- that come later
pub record IsPutBetween (old : List Post) (post : Post) (new : List Post) : Type 0 where
  pub before : List Post
  pub behind : List Post
  pub old_is : old ≡ before ++ behind
  pub new_is : new ≡ before ++ post ∷ behind
  pub no_later : AllByRecursion (λ q. is_later q post ≡ false) before
  pub later : AllByRecursion (λ q. is_later q post ≡ true) behind

-- the due of the first post; where none waits, the greatest number of 64 bits
abbrev pub next_due : List Post → ℕ
next_due [] = 2 ^ 64 - 1
next_due (p ∷ inbox) = p.due
