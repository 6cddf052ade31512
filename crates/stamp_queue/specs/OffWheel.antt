-- Posts by due: a list of entries, each a due and the posts that have it.
use Rattle.std.specs.Prelude.{◌≡◌, ◌≢◌, ℕ, List, [], ◌∷◌, ◌++◌}
use Rattle.std.specs.List.{AllByRecursion}
use Rattle.slack_base.specs.declared.messages.Post.{Post}
use Rattle.stamp_queue.specs.Inbox.{IsInOrder}

-- the posts of all entries, one after another
abbrev pub all_posts : List (ℕ × List Post) → List Post
all_posts [] = []
all_posts (entry ∷ entries) = entry.1 ++ all_posts entries

-- an entry has posts, all of its due, in order
abbrev pub IsEntry : ℕ × List Post → Type 0
IsEntry entry = (entry.1 ≢ []) × AllByRecursion (λ p. p.due ≡ entry.0) entry.1 × IsInOrder entry.1

abbrev pub AreEntries : List (ℕ × List Post) → Type 0
AreEntries entries = AllByRecursion IsEntry entries

-- no post has the due
abbrev pub NoneHasDue : List Post → ℕ → Type 0
NoneHasDue posts due = AllByRecursion (λ p. p.due ≢ due) posts
