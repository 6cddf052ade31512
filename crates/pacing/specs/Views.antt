-- What contracts see of a stored drift between two pieces.
use Rattle.std.specs.Prelude.{◌≡◌, ℕ, List, map, All}
use Rattle.slack_base.specs.declared.messages.Ask.{Ask}
use Rattle.target_law.specs.Proper.{IsCore}
use Rattle.target_law.specs.Rules.{Rules, Owns}
use Rattle.target_law.specs.Values.{Values}
use Rattle.pacing.specs.Pieces.{LaneValue, UnderwayValue, lane_ticked}
use Rattle.pacing.specs.declared.lanes.Lane.{Lane}
use Rattle.pacing.specs.declared.underway.Underway.{Underway}

module _ {Core Chan Inner Channel : Type 0} (values : Values Core Chan Inner Channel) where
  abbrev pub lane_of : Lane Core → LaneValue Inner
  lane_of lane = record { core = values.core lane.core; taken = lane.taken }

  -- the lane with the asks of its last piece
  abbrev pub ticked_of : Lane Core → LaneValue Inner × List Ask
  ticked_of lane = (lane_of lane, lane.asks)

  abbrev pub underway_of : Underway Core Chan → UnderwayValue Inner Channel
  underway_of w = record {
    clock = w.clock;
    lanes = map lane_of w.lanes.items;
    chans = map values.chan w.chans.items;
    served = w.served;
    clashes = w.clashes;
  }

  module _ (rules : Rules Inner Channel) where
    -- all lanes have cores of the machine
    abbrev pub AreCores : Owns Inner Channel → List (Lane Core) → Type 0
    AreCores owns lanes = All (λ lane. IsCore rules owns (values.core lane.core)) lanes

    -- every core has ticked by itself through k cycles from a clock, and its lane has its asks
    abbrev pub HaveTicked : (from k : ℕ) → (old new : List (Lane Core)) → Type 0
    HaveTicked from k old new = map ticked_of new ≡ map (lane_ticked rules from k) (map lane_of old)
