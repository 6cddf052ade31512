-- What an ask does to the entry of its line.
use Rattle.std.specs.Prelude.{◌≡◌, ℕ, ◌+◌, Bool, true, false, List, [], ◌∷◌, ◌++◌, Some, None, ◌==◌, nat_lt, max, map, fold, unwrap_or, if◌then◌else◌}
use Rattle.slack_base.specs.declared.stamps.Id.{Id}
use Rattle.slack_base.specs.declared.messages.Words.{Words}
use Rattle.slack_base.specs.declared.messages.Ask.{Ask}
use Rattle.slack_base.specs.declared.messages.Ask.TheVariants.{Read, ReadOwn, WriteBack, Flush}
use Rattle.slack_base.specs.declared.messages.Post.{Post}
use Rattle.slack_base.specs.declared.messages.PostKind.{PostKind}
use Rattle.slack_base.specs.declared.messages.PostKind.TheVariants.{Reply, Retry, SnoopShare, SnoopOwn, Invalidate}
use Rattle.slack_base.specs.Messages.{id_of, line_of}
use Rattle.status_map.specs.declared.views.EntryKind.{EntryKind}
use Rattle.status_map.specs.declared.views.EntryKind.TheVariants.{Idle, Shared, Owned, Moving}
use Rattle.status_map.specs.declared.views.EntryView.{EntryView}
use Rattle.status_map.specs.declared.views.Delays.{Delays}
use Rattle.status_map.specs.Cores.{with_core, only, others}

-- a post: to which core, how long after the grant, and what it says
pub record Sending : Type 0 where
  pub core : ℕ
  pub delay : ℕ
  pub says : PostKind

abbrev pub send : ℕ → ℕ → PostKind → Sending
send core delay says = record { core = core; delay = delay; says = says }

-- what a row gives: the posts, who holds the line then, and the words that memory has then
pub record Outcome : Type 0 where
  pub sendings : List Sending
  pub holder : EntryKind
  pub memory : Words

abbrev pub outcome : List Sending → EntryKind → Words → Outcome
outcome sendings holder memory = record { sendings = sendings; holder = holder; memory = memory }

-- the core is the owner of the line
abbrev pub owns : ℕ → EntryKind → Bool
owns c Idle = false
owns c (Shared s) = false
owns c (Owned o) = o == c
owns c (Moving o r x) = o == c

-- The table, its rows tried from the top: the delays d, memory's words m, the ask, the entry, whether the core that
-- asks, i.core, owns the line, and whether the grant is below the cycle from which the entry is settled.
unfoldable pub row : Delays → Words → Ask → EntryKind → Bool → Bool → Outcome
row d m (Read i l) (Moving o r x) mine early = outcome (send i.core d.snoop Retry ∷ []) (Moving o r x) m
row d m (Read i l) (Owned o) mine true = outcome (send i.core d.snoop Retry ∷ []) (Owned o) m
row d m (Read i l) (Owned o) false false = outcome (send o d.snoop SnoopShare ∷ []) (Moving o i.core false) m
row d m (Read i l) (Owned o) true false = outcome (send i.core d.memory (Reply true m) ∷ []) (Owned i.core) m
row d m (Read i l) Idle mine early = outcome (send i.core d.memory (Reply true m) ∷ []) (Owned i.core) m
row d m (Read i l) (Shared s) mine early = outcome (send i.core d.memory (Reply false m) ∷ []) (Shared (with_core s i.core)) m
row d m (ReadOwn i l) (Moving o r x) mine early = outcome (send i.core d.snoop Retry ∷ []) (Moving o r x) m
row d m (ReadOwn i l) e mine true = outcome (send i.core d.snoop Retry ∷ []) e m
row d m (ReadOwn i l) (Owned o) false false = outcome (send o d.snoop SnoopOwn ∷ []) (Moving o i.core true) m
row d m (ReadOwn i l) (Owned o) true false = outcome (send i.core d.memory (Reply true m) ∷ []) (Owned i.core) m
row d m (ReadOwn i l) Idle mine false = outcome (send i.core d.memory (Reply true m) ∷ []) (Owned i.core) m
row d m (ReadOwn i l) (Shared s) mine false = outcome (map (λ k. send k d.snoop Invalidate) (others s i.core) ++ send i.core d.memory (Reply true m) ∷ []) (Owned i.core) m
row d m (WriteBack i l w) (Owned o) true early = outcome [] Idle w
row d m (WriteBack i l w) (Moving o r x) true early = outcome [] (Moving o r x) w
row d m (Flush i l w) (Moving o r true) true early = outcome (send r d.transfer (Reply true (unwrap_or w m)) ∷ []) (Owned r) (unwrap_or w m)
row d m (Flush i l (Some w)) (Moving o r false) true early = outcome (send r d.transfer (Reply false w) ∷ []) (Shared (with_core (only i.core) r)) w
row d m (Flush i l None) (Moving o r false) true early = outcome (send r d.transfer (Reply false m) ∷ []) (Shared (only r)) m
row d m ask e mine early = outcome [] e m

-- each post carries the ask's id and line
abbrev pub post_of : Id → ℕ → ℕ → Sending → Post
post_of id line grant s = record { to = s.core; due = grant + s.delay; id = id; line = line; kind = s.says }

abbrev pub is_reply : PostKind → Bool
is_reply (Reply exclusive words) = true
is_reply kind = false

-- a reply that is promised settles the line from the cycle after it
abbrev pub settled_by : ℕ → Post → ℕ
settled_by settled post = if is_reply post.kind then max settled (post.due + 1) else settled

-- an entry after an ask, and the posts in the order in which they are sent
pub record Served : Type 0 where
  pub entry : EntryView
  pub posts : List Post

abbrev pub served : Id → ℕ → ℕ → ℕ → Outcome → Served
served id line grant settled o =
    let posts = map (post_of id line grant) o.sendings in
    record { entry = record { kind = o.holder; settled = fold settled_by settled posts; words = o.memory }; posts = posts }

-- an ask with this grant
unfoldable pub serve : Delays → ℕ → Ask → EntryView → Served
serve d grant ask e =
    served (id_of ask) (unwrap_or (line_of ask) 0) grant e.settled
    (row d e.words ask e.kind (owns (id_of ask).core e.kind) (nat_lt grant e.settled))

-- a write-back by a core, whatever its id, its line and its grant
abbrev pub WritesBack : ℕ → Words → EntryView → EntryView → Type 0
WritesBack core words old new =
    (d : Delays) (grant : ℕ) (id : Id) (line : ℕ) → id.core ≡ core → serve d grant (WriteBack id line words) old ≡ record { entry = new; posts = [] }
