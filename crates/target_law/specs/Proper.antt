-- Which states are those of a machine, at any clock.
use Rattle.std.specs.Prelude.{ℕ, ◌≡◌, ◌≤◌, All, IsTrue, length}
use Rattle.slack_base.specs.declared.bounds.TheConstants.{TOP}
use Rattle.slack_base.specs.declared.messages.Ask.{Ask}
use Rattle.slack_base.specs.declared.messages.Post.{Post}
use Rattle.slack_base.specs.Inboxes.{CoreValue}
use Rattle.target_law.specs.Cycles.{StateValue}
use Rattle.target_law.specs.Numbered.{AllNumbered}
use Rattle.target_law.specs.Rules.{Rules, Owns}

module _ {Inner Chan : Type 0} (rules : Rules Inner Chan) where
  -- an ask that the machine's cores may send
  abbrev pub IsProperAsk : Ask → Type 0
  IsProperAsk ask = IsTrue (rules.is_proper_ask ask)

  -- a post that the machine's channels may send
  abbrev pub IsProperPost : Post → Type 0
  IsProperPost p = IsTrue (rules.is_proper_post p)

  -- a proper post, addressed to the core of this number
  pub record IsPostTo (place : ℕ) (p : Post) : Type 0 where
    pub proper : IsProperPost p
    pub to : p.to ≡ place

  module _ (owns : Owns Inner Chan) where
    -- the machine's core of this number, with its own posts waiting for it
    pub record IsCoreOf (place : ℕ) (core : CoreValue Inner) : Type 0 where
      pub own : owns.core core.inner
      pub number : rules.core_number core.inner ≡ place
      pub inbox : All (IsPostTo place) core.inbox

    -- a core of the machine, of whatever number
    abbrev pub IsCore : CoreValue Inner → Type 0
    IsCore core = IsCoreOf (rules.core_number core.inner) core

    -- the machine's channel of this number
    pub record IsChanOf (place : ℕ) (chan : Chan) : Type 0 where
      pub own : owns.chan chan
      pub number : rules.chan_number chan ≡ place

    -- a channel of the machine, of whatever number
    abbrev pub IsChan : Chan → Type 0
    IsChan chan = IsChanOf (rules.chan_number chan) chan

    -- a state with the machine's cores and channels, each in its place
    pub record IsProper (s : StateValue Inner Chan) : Type 0 where
      pub clock : s.clock ≤ TOP
      pub core_count : length s.cores ≡ rules.cores
      pub cores : AllNumbered IsCoreOf 0 s.cores
      pub chan_count : length s.chans ≡ rules.channels
      pub chans : AllNumbered IsChanOf 0 s.chans
      -- closing a channel again changes nothing
      pub closed : All (λ chan. rules.close chan ≡ chan) s.chans

-- no post that waits is late
abbrev pub IsPunctual : {Inner Chan : Type 0} → StateValue Inner Chan → Type 0
IsPunctual s = All (λ core. All (λ p. s.clock ≤ p.due) core.inbox) s.cores
