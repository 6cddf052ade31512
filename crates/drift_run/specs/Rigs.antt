-- The manager and the actors of a drift by threads, before its legs and after.
use Rattle.std.specs.Prelude.{◌≡◌, ℕ, ◌≤◌, List, [], All}
use Rattle.std.specs.List.{AllZip}
use Rattle.core_actor.specs.Actors.{IsReady, IsAlone, Ran}
use Rattle.core_actor.specs.declared.actors.CoreActor.{CoreActor}
use Rattle.io_edge.specs.Holds.{Holds}
use Rattle.manager.specs.declared.managers.Desk.{Desk}
use Rattle.manager.specs.declared.managers.Manager.{Manager}
use Rattle.manager.specs.Leads.{Led}
use Rattle.manager.specs.Managers.{IsReadyManager, IsThrough}
use Rattle.manager.specs.Places.{PlacePairs}
use Rattle.slack_base.specs.declared.bounds.TheConstants.{TOP}
use Rattle.stamp_queue.specs.Rings.{all_sent, AreEnds}
use Rattle.target_law.specs.Cycles.{StateValue}
use Rattle.target_law.specs.Proper.{IsProper}
use Rattle.target_law.specs.Rules.{Rules, Owns}
use Rattle.target_law.specs.Values.{Values}

module _ {Core : Type 0} where
  -- the desk of the core of this number and its actor have the ends of the same two rings
  pub record AreJoined (c : ℕ) (desk : Desk) (a : CoreActor Core) : Type 0 where
    pub number : a.pacer.number ≡ c
    pub asks : AreEnds a.asks desk.asks
    pub posts : AreEnds desk.posts a.posts

  -- an actor at this clock, as far as it sees global time, with this slack; it has sent nothing
  pub record IsOpening (clock slack : ℕ) (a : CoreActor Core) : Type 0 where
    pub clock' : a.lane.clock ≡ clock
    pub seen : a.pacer.seen ≡ clock
    pub slack' : a.pacer.slack ≡ slack
    pub sent : all_sent a.asks ≡ []

module _ {Inner Chan : Type 0} (rules : Rules Inner Chan) (owns : Owns Inner Chan) {Core D : Type 0} (values : Values Core D Inner Chan) where
  -- what legs want of a manager and actors, in a drift that ends at this clock
  pub record AreReady (end : ℕ) (m : Manager D) (all : List (CoreActor Core)) : Type 0 where
    pub manager : IsReadyManager rules owns values m
    pub actors : All (IsReady rules owns values end) all
    pub rings : PlacePairs AreJoined m.desks.items all

module _ {Inner Chan : Type 0} (rules : Rules Inner Chan) {Core D : Type 0} (values : Values Core D Inner Chan) where
  -- they have come of a state
  pub record HaveCome (s : StateValue Inner Chan) (m : Manager D) (actors : List (CoreActor Core)) : Type 0 where
    pub manager : IsThrough rules values s.chans m
    pub cores : PlacePairs (λ _. IsAlone rules values s.clock) s.cores actors

module _ {Inner Chan : Type 0} (rules : Rules Inner Chan) (owns : Owns Inner Chan) {Core D : Type 0} (values : Values Core D Inner Chan) where
  -- the manager and the actors of a state, at its clock, with this slack
  pub record IsRigged (s : StateValue Inner Chan) (slack : ℕ) (m : Manager D) (actors : List (CoreActor Core)) : Type 0 where
    pub ready : (end : ℕ) → s.clock ≤ end → end ≤ TOP → AreReady rules owns values end m actors
    pub come : HaveCome rules values s m actors
    pub opening : All (IsOpening s.clock slack) actors

module _ {Inner Chan : Type 0} (rules : Rules Inner Chan) (owns : Owns Inner Chan) {Core D : Type 0} (values : Values Core D Inner Chan) where
  -- what the legs of a drift that ends at this clock have left, beside a gate that holds cores so, of a manager and actors
  -- that had come of a proper state, with this slack
  pub record HaveLeft (s : StateValue Inner Chan) (slack : ℕ) (holds : Holds) (end : ℕ) (n : Manager D) (left : List (CoreActor Core)) : Type 0 where
    pub proper : IsProper rules owns s
    pub manager : Manager D
    pub actors : List (CoreActor Core)
    pub ready : AreReady rules owns values end manager actors
    pub come : HaveCome rules values s manager actors
    pub opening : All (IsOpening s.clock slack) actors
    pub led : Led rules owns values manager n
    pub ran : AllZip (Ran rules owns values holds end) actors left

  -- legs have run, of whatever state
  pub record HaveRun (end : ℕ) (n : Manager D) (left : List (CoreActor Core)) : Type 0 where
    pub state : StateValue Inner Chan
    pub slack : ℕ
    pub holds : Holds
    pub left' : HaveLeft state slack holds end n left

  -- something is so of each state at this clock of which legs have left these
  abbrev pub OfEach : (start end : ℕ) → Manager D → List (CoreActor Core) → (StateValue Inner Chan → (slack : ℕ) → Holds → Type 0) → Type 0
  OfEach start end n left Is = (s : StateValue Inner Chan) (slack : ℕ) (holds : Holds) → s.clock ≡ start → HaveLeft s slack holds end n left → Is s slack holds
