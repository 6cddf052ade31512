-- A drift between two pieces, of a machine's cores and channels, each in its place.
use Rattle.std.specs.Prelude.{◌≡◌, ◌≤◌, ℕ, length}
use Rattle.slack_base.specs.declared.bounds.TheConstants.{TOP}
use Rattle.target_law.specs.Numbered.{AllNumbered}
use Rattle.target_law.specs.Proper.{IsCoreOf, IsChanOf}
use Rattle.target_law.specs.Rules.{Rules, Owns}
use Rattle.pacing.specs.Pieces.{LaneValue, UnderwayValue}

module _ {Inner Chan : Type 0} (rules : Rules Inner Chan) (owns : Owns Inner Chan) where
  -- the lane of the machine's core of this number
  abbrev pub IsLaneOf : (place : ℕ) → LaneValue Inner → Type 0
  IsLaneOf place lane = IsCoreOf rules owns place lane.core

  pub record IsOpen (w : UnderwayValue Inner Chan) : Type 0 where
    pub clock : w.clock ≤ TOP
    pub count : length w.lanes ≡ rules.cores
    pub lanes : AllNumbered IsLaneOf 0 w.lanes
    pub chan_count : length w.chans ≡ rules.channels
    pub chans : AllNumbered (IsChanOf rules owns) 0 w.chans
