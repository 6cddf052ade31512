-- Drifts: each core ticks through the same cycles at its own pace, and a history says what went between cores and
-- channels, in which order, and when it was taken.
use Rattle.std.specs.Prelude.{ℕ, ◌+◌, ◌≡◌, ◌==◌, All, List, map, filter}
use Rattle.slack_base.specs.declared.histories.Drift.{Drift}
use Rattle.slack_base.specs.declared.histories.Taken.{Taken}
use Rattle.slack_base.specs.declared.messages.Ask.{Ask}
use Rattle.slack_base.specs.declared.messages.Post.{Post}
use Rattle.slack_base.specs.Inboxes.{CoreValue}
use Rattle.slack_base.specs.Messages.{id_of}
use Rattle.target_law.specs.Alone.{Alone}
use Rattle.target_law.specs.Cycles.{StateValue, through}
use Rattle.target_law.specs.Numbered.{AllNumberedTriples}
use Rattle.target_law.specs.Proper.{IsProperAsk, IsPostTo}
use Rattle.target_law.specs.Rules.{Rules}

-- the asks of this core
abbrev pub asks_by : ℕ → List Ask → List Ask
asks_by c asks = filter (λ ask. (id_of ask).core == c) asks

-- the posts to this core
abbrev pub posts_to : ℕ → List Post → List Post
posts_to c posts = filter (λ p. p.to == c) posts

module _ {Inner Chan : Type 0} (rules : Rules Inner Chan) where
  -- the part that the core of number c has in a drift from a state: `core` is the core before, `taken` the posts that
  -- went to it, and `after` the core at the end
  pub record IsPartOf (s : StateValue Inner Chan) (d : Drift) (c : ℕ) (core : CoreValue Inner) (taken : List Taken) (after : CoreValue Inner) : Type 0 where
    -- it took these posts and ticked through the cycles; its asks are those of its number that were served, in the order
    -- in which it sent them
    pub alone : Alone rules core s.clock d.len taken after (asks_by c d.served)
    -- the posts are those to it that the channels sent, in the order in which they were sent
    pub received : map (λ x. x.post) taken ≡ posts_to c (through rules s.chans d.served).posts
    pub proper : All (λ x. IsPostTo rules c x.post) taken

  -- the history is that of a drift from the first state to the second. No other core has an ask in it, since its asks
  -- are proper
  pub record IsDrift (s : StateValue Inner Chan) (d : Drift) (e : StateValue Inner Chan) : Type 0 where
    pub start : d.start ≡ s.clock
    pub proper : All (IsProperAsk rules) d.served
    pub clashes : d.clashes ≡ (through rules s.chans d.served).clashes
    pub cores : AllNumberedTriples (IsPartOf s d) 0 s.cores d.sent e.cores
    pub clock : e.clock ≡ d.start + d.len
    pub chans : e.chans ≡ map rules.close (through rules s.chans d.served).chans
