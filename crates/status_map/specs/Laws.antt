-- What is true of the posts of any ask.
use Rattle.std.specs.Prelude.{◌≡◌, ◌≢◌, ℕ, ◌+◌, ◌<◌, ◌≤◌, All, AllPairs}
use Rattle.slack_base.specs.declared.messages.Ask.{Ask}
use Rattle.slack_base.specs.Messages.{id_of}
use Rattle.status_map.specs.declared.views.EntryView.{EntryView}
use Rattle.status_map.specs.declared.views.Delays.{Delays}
use Rattle.status_map.specs.Entries.{NamesBelow}
use Rattle.status_map.specs.Table.{Served, serve}

-- each delay is at least so long
abbrev pub AreAtLeast : ℕ → Delays → Type 0
AreAtLeast least d = (least ≤ d.snoop) × (least ≤ d.memory) × (least ≤ d.transfer)

-- where the core that asks and those of the entry are below n, so are those of the new entry and the receivers of the
-- posts; each post carries the ask's id and is due after the least delay at the soonest, and no core gets two
pub record IsLawful (n soonest : ℕ) (ask : Ask) (s : Served) : Type 0 where
  pub named : NamesBelow n s.entry.kind
  pub received : All (λ p. p.to < n) s.posts
  pub carried : All (λ p. p.id ≡ id_of ask) s.posts
  pub due : All (λ p. soonest ≤ p.due) s.posts
  pub once : AllPairs (λ p q. p.to ≢ q.to) s.posts

abbrev pub AllLawful : Type 0
AllLawful =
    (n least grant : ℕ) (d : Delays) (ask : Ask) (e : EntryView)
    → AreAtLeast least d → (id_of ask).core < n → NamesBelow n e.kind → IsLawful n (grant + least) ask (serve d grant ask e)
