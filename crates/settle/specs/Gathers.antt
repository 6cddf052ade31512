-- How what was left in rings is gathered.
use Rattle.std.specs.Prelude.{◌≡◌, ℕ, List, ◌++◌, Some, length, slice_get}
use Rattle.drive_script.specs.declared.lanes.Lane.{Lane}
use Rattle.manager.specs.declared.managers.Desk.{Desk}
use Rattle.slack_base.specs.declared.messages.Ask.{Ask}
use Rattle.slack_base.specs.declared.messages.Post.{Post}
use Rattle.stamp_queue.specs.Rings.{all_sent, all_received, AreEnds}
use Rattle.settle.specs.declared.parts.Part.{Part}

module _ {Core : Type 0} where
  -- the desk and the part have the ends of the same two rings
  pub record AreLinked (desk : Desk) (part : Part Core) : Type 0 where
    pub asks : AreEnds part.asks desk.asks
    pub posts : AreEnds desk.posts part.posts

  -- at the lane of a core there wait, behind what waited at its desk and at its part, what was left in its rings
  pub record Gathered (desk : Desk) (part : Part Core) (lane : Lane Core) : Type 0 where
    pub core : lane.core ≡ part.core
    pub clock : lane.clock ≡ part.clock
    pub taken : lane.taken ≡ part.taken
    pub asks : (before : List Ask) → all_received desk.asks ≡ before ++ desk.pending.items → all_sent part.asks ≡ before ++ lane.asks.items
    pub posts : (before : List Post) → all_received part.posts ≡ before ++ part.waiting.items → all_sent desk.posts ≡ before ++ lane.posts.items

  -- so it is at each place
  pub record AreGathered (desks : List Desk) (parts : List (Part Core)) (lanes : List (Lane Core)) : Type 0 where
    pub count : length lanes ≡ length parts
    pub at : (c : ℕ) (desk : Desk) (part : Part Core) (lane : Lane Core)
        → slice_get desks c ≡ Some desk → slice_get parts c ≡ Some part → slice_get lanes c ≡ Some lane → Gathered desk part lane
