-- A wheel: a list of posts for each of 256 slots.
use Rattle.std.specs.Prelude.{◌≡◌, ℕ, ◌%◌, ◌+◌, ◌≤◌, ◌<◌, List, [], ◌∷◌, length, slice_index_or, slice_set}
use Rattle.std.specs.List.{AllByRecursion}
use Rattle.slack_base.specs.declared.messages.Post.{Post}
use Rattle.stamp_queue.specs.declared.inbox.occupied.Occupied.{Occupied}
use Rattle.stamp_queue.specs.Inbox.{IsInOrder, next_due}
use Rattle.stamp_queue.specs.Merged.{with_slots}
use Rattle.stamp_queue.specs.Occupied.{mark_at}

-- the posts of a slot
abbrev pub posts_in : List (List Post) → ℕ → List Post
posts_in slots slot = slice_index_or slots slot []

-- the posts of all slots, in order
abbrev pub wheel_posts : List (List Post) → List Post
wheel_posts slots = with_slots (posts_in slots) 256

-- the first post of a slot is taken out
abbrev pub TakesFirst : List (List Post) → List (List Post) → ℕ → Post → Type 0
TakesFirst old new slot p = (rest : List Post) × (posts_in old slot ≡ p ∷ rest) × (new ≡ slice_set old slot rest)

-- the post stands in the slot of its due, which is one of the 256 from the floor on
abbrev pub BelongsTo : ℕ → ℕ → Post → Type 0
BelongsTo floor slot p = (p.due % 256 ≡ slot) × (floor ≤ p.due) × (p.due ≤ floor + 255)

-- each slot holds posts that belong to it, in order
pub record AreHeld (slots : List (List Post)) (floor : ℕ) : Type 0 where
  pub count : length slots ≡ 256
  pub belong : (k : ℕ) → k < 256 → AllByRecursion (BelongsTo floor k) (posts_in slots k)
  pub in_order : (k : ℕ) → k < 256 → IsInOrder (posts_in slots k)

-- the mark of a slot tells whether it has a post
abbrev pub IsMarked : ℕ → List Post → Type 0
IsMarked mark [] = mark ≡ 0
IsMarked mark (p ∷ posts) = mark ≡ 1

abbrev pub AreMarked : Occupied → List (List Post) → Type 0
AreMarked occupied slots = (k : ℕ) → k < 256 → IsMarked (mark_at occupied k) (posts_in slots k)

-- what is true of a wheel's fields
pub record IsWheel (slots : List (List Post)) (occupied : Occupied) (floor first : ℕ) : Type 0 where
  pub held : AreHeld slots floor
  pub marked : AreMarked occupied slots
  pub least : first ≡ next_due (wheel_posts slots)
