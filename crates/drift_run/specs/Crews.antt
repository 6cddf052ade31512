-- The actors of cores, as they begin, and the other ends of their rings.
use Rattle.std.specs.Prelude.{◌≡◌, List, [], map}
use Rattle.core_actor.specs.Actors.{IsBegun}
use Rattle.core_actor.specs.declared.actors.CoreActor.{CoreActor}
use Rattle.core_gate.specs.declared.pacers.Pacer.{Pacer}
use Rattle.manager.specs.Places.{PlacePairs}
use Rattle.slack_base.specs.declared.messages.Ask.{Ask}
use Rattle.slack_base.specs.declared.messages.Post.{Post}
use Rattle.stamp_queue.specs.declared.receivers.Receiver.{Receiver}
use Rattle.stamp_queue.specs.declared.senders.Sender.{Sender}
use Rattle.stamp_queue.specs.Rings.{all_sent, all_received, AreEnds}
use Rattle.drift_run.specs.declared.crews.Crew.{Crew}

module _ {Core : Type 0} where
  -- the actor of a core has begun, and nothing went through its rings
  pub record HasBegun (core : Core) (a : CoreActor Core) : Type 0 where
    pub begun : IsBegun core a.asks a.posts a.pacer a
    pub sent : all_sent a.asks ≡ []
    pub received : all_received a.posts ≡ []

  -- the other ends of an actor's rings, at which nothing was received and sent
  pub record IsAskEnd (a : CoreActor Core) (r : Receiver Ask) : Type 0 where
    pub ends : AreEnds a.asks r
    pub received : all_received r ≡ []

  pub record IsPostEnd (a : CoreActor Core) (s : Sender Post) : Type 0 where
    pub ends : AreEnds s a.posts
    pub sent : all_sent s ≡ []

  -- the actors of these cores, with these pacers
  pub record IsCrew (cores : List Core) (pacers : List Pacer) (crew : Crew Core) : Type 0 where
    pub paced : map (λ a. a.pacer) crew.actors.items ≡ pacers
    pub begun : PlacePairs (λ _. HasBegun) cores crew.actors.items
    pub asks : PlacePairs (λ _. IsAskEnd) crew.actors.items crew.asks
    pub posts : PlacePairs (λ _. IsPostEnd) crew.actors.items crew.posts
