-- What actors leave once their legs are done.
use Rattle.std.specs.Prelude.{◌≡◌, ℕ, ◌≤◌, length, take}
use Rattle.core_actor.specs.declared.actors.CoreActor.{CoreActor}
use Rattle.drive_script.specs.declared.lanes.Lane.{Lane}
use Rattle.settle.specs.declared.parts.Part.{Part}
use Rattle.violation_watch.specs.Watching.{SawTaken}
use Rattle.drift_run.specs.declared.parts.CoreWatch.{CoreWatch}

module _ {Core : Type 0} where
  -- the part that an actor brings to the end of its drift
  abbrev pub part_of : CoreActor Core → Part Core
  part_of a = record { core = a.lane.core; clock = a.lane.clock; taken = a.lane.taken; waiting = a.lane.posts; asks = a.asks; posts = a.posts }

  -- its monitor, which saw all that it has taken
  abbrev pub watch_of : CoreActor Core → CoreWatch
  watch_of a = record { core = a.pacer.number; watch = a.watch; seen = length a.lane.taken }

  -- the monitor of the core of this number saw the first of the posts that the core has taken
  pub record HasSeenFirst (end c : ℕ) (lane : Lane Core) (w : CoreWatch) : Type 0 where
    pub core : w.core ≡ c
    pub within : w.seen ≤ length lane.taken
    pub saw : SawTaken c end (take w.seen lane.taken) w.watch
