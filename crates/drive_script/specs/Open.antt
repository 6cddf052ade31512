-- Worlds of a machine: each core and channel in its place, with its own asks and posts.
use Rattle.std.specs.Prelude.{◌≡◌, ℕ, ◌<◌, ◌≤◌, List, [], ◌∷◌, length}
use Rattle.std.specs.List.{AllByRecursion as Each}
use Rattle.slack_base.specs.declared.bounds.TheConstants.{TOP}
use Rattle.slack_base.specs.declared.messages.Ask.{Ask}
use Rattle.slack_base.specs.declared.messages.Post.{Post}
use Rattle.slack_base.specs.Messages.{id_of}
use Rattle.target_law.specs.Numbered.{AllNumbered}
use Rattle.target_law.specs.Proper.{IsProperAsk, IsPostTo, IsCoreOf, IsChanOf}
use Rattle.target_law.specs.Rules.{Rules, Owns}
use Rattle.target_law.specs.Served.{AreRising}
use Rattle.drive_script.specs.Worlds.{LaneValue, WorldValue}

module _ {Inner Chan : Type 0} (rules : Rules Inner Chan) where
  -- a proper ask of the core of this number
  pub record IsAskOf (place : ℕ) (ask : Ask) : Type 0 where
    pub proper : IsProperAsk rules ask
    pub core : (id_of ask).core ≡ place

  -- the oldest of these posts, if there is any, is a proper one to the core of this number
  abbrev pub IsNextTo : (place : ℕ) → List Post → Type 0
  IsNextTo place [] = Unit {0}
  IsNextTo place (p ∷ posts) = IsPostTo rules place p

  module _ (owns : Owns Inner Chan) where
    pub record IsLaneOf (end place : ℕ) (lane : LaneValue Inner) : Type 0 where
      pub core : IsCoreOf rules owns place lane.core
      pub asks : Each (IsAskOf place) lane.asks
      -- they are those of ticks before the clock, in the order of their ids
      pub rising : AreRising lane.asks
      pub earlier : Each (λ ask. (id_of ask).cycle < lane.clock) lane.asks
      pub posts : Each (IsPostTo rules place) lane.posts
      pub clock : lane.clock ≤ end

    pub record IsOpen (w : WorldValue Inner Chan) : Type 0 where
      pub end : w.end ≤ TOP
      pub count : length w.lanes ≡ rules.cores
      pub lanes : AllNumbered (IsLaneOf w.end) 0 w.lanes
      pub chan_count : length w.chans ≡ rules.channels
      pub chans : AllNumbered (IsChanOf rules owns) 0 w.chans
