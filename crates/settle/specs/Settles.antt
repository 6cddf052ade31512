-- From what is gathered, finishing leads to the end.
use Rattle.std.specs.Prelude.{◌≡◌, ℕ, List, ◌++◌, map}
use Rattle.slack_base.specs.declared.histories.Taken.{Taken}
use Rattle.target_law.specs.Rules.{Rules}
use Rattle.target_law.specs.Values.{Values}
use Rattle.drive_script.specs.declared.lanes.Lane.{Lane}
use Rattle.drive_script.specs.Finishing.{Finishes}
use Rattle.drive_script.specs.Views.{lane_of}
use Rattle.drive_script.specs.Worlds.{WorldValue}
use Rattle.manager.specs.declared.managers.Manager.{Manager}
use Rattle.manager.specs.Places.{PlacePairs}
use Rattle.settle.specs.Gathers.{AreGathered}
use Rattle.settle.specs.declared.parts.Part.{Part}

module _ {Inner Chan : Type 0} {Core D : Type 0} (values : Values Core D Inner Chan) where
  -- the world of a manager's channels and history, with these lanes
  abbrev pub gathered_world : (end : ℕ) → Manager D → List (Lane Core) → WorldValue Inner Chan
  gathered_world end m lanes = record {
    end = end;
    lanes = map (lane_of values) lanes;
    chans = map values.chan m.chans.items;
    served = m.served;
    clashes = m.clashes;
  }

module _ {Inner Chan : Type 0} (rules : Rules Inner Chan) {Core D : Type 0} (values : Values Core D Inner Chan) where
  -- from what a manager and the parts of cores leave when they are gathered, finishing leads to this world
  pub record FinishesFrom (end : ℕ) (m : Manager D) (parts : List (Part Core)) (last : WorldValue Inner Chan) : Type 0 where
    pub lanes : List (Lane Core)
    pub gathered : AreGathered m.desks.items parts lanes
    pub finishes : Finishes rules (gathered_world values end m lanes) last

-- each core has taken what it took before, and then maybe more
abbrev pub HaveTakenMore : {Core : Type 0} → List (Part Core) → List (Lane Core) → Type 0
HaveTakenMore parts lanes = PlacePairs (λ c part lane. (more : List Taken) × (lane.taken ≡ part.taken ++ more)) parts lanes
