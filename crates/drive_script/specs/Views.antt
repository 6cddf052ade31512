-- What contracts see of a stored world.
use Rattle.std.specs.Prelude.{map}
use Rattle.drive_script.specs.Worlds.{LaneValue, WorldValue}
use Rattle.drive_script.specs.declared.lanes.Lane.{Lane}
use Rattle.drive_script.specs.declared.worlds.World.{World}
use Rattle.target_law.specs.Values.{Values}

module _ {Core Chan Inner Channel : Type 0} (values : Values Core Chan Inner Channel) where
  abbrev pub lane_of : Lane Core → LaneValue Inner
  lane_of lane = record { core = values.core lane.core; clock = lane.clock; asks = lane.asks.items; posts = lane.posts.items; taken = lane.taken }

  abbrev pub world_of : World Core Chan → WorldValue Inner Channel
  world_of w = record {
    end = w.end;
    lanes = map lane_of w.lanes.items;
    chans = map values.chan w.chans.items;
    served = w.served;
    clashes = w.clashes;
  }
