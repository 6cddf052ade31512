-- A manager that has done nothing yet.
use Rattle.std.specs.Prelude.{◌≡◌, List, [], All, length, map}
use Rattle.core_gate.specs.Seats.{cores_of}
use Rattle.core_gate.specs.declared.overseers.Overseer.{Overseer}
use Rattle.slack_base.specs.declared.messages.Ask.{Ask}
use Rattle.slack_base.specs.declared.messages.Post.{Post}
use Rattle.stamp_queue.specs.Rings.{all_sent, all_received}
use Rattle.stamp_queue.specs.declared.receivers.Receiver.{Receiver}
use Rattle.stamp_queue.specs.declared.senders.Sender.{Sender}
use Rattle.target_law.specs.Numbered.{AllNumbered}
use Rattle.target_law.specs.Proper.{IsChanOf}
use Rattle.target_law.specs.Rules.{Rules, Owns}
use Rattle.target_law.specs.Values.{Values}
use Rattle.violation_watch.specs.Watching.{IsNew}
use Rattle.manager.specs.declared.managers.Manager.{Manager}
use Rattle.manager.specs.Managers.{IsReadyManager, IsThrough}

-- of these channels, ends of rings and overseer
pub record IsOpening {D : Type 0} (chans : List D) (asks : List (Receiver Ask)) (posts : List (Sender Post)) (overseer : Overseer) (m : Manager D) : Type 0 where
  pub channels : m.chans.items ≡ chans
  pub receivers : map (λ desk. desk.asks) m.desks.items ≡ asks
  pub senders : map (λ desk. desk.posts) m.desks.items ≡ posts
  pub pending : All (λ desk. desk.pending.items ≡ []) m.desks.items
  pub clocks : m.overseer ≡ overseer
  pub served : m.served ≡ []
  pub clashes : m.clashes ≡ []
  pub watch : IsNew m.watch

-- nothing was received and sent at these ends
pub record AreUnused (asks : List (Receiver Ask)) (posts : List (Sender Post)) : Type 0 where
  pub receivers : All (λ a. all_received a ≡ []) asks
  pub senders : All (λ p. all_sent p ≡ []) posts

module _ {Inner Chan : Type 0} (rules : Rules Inner Chan) (owns : Owns Inner Chan) {Core D : Type 0} (values : Values Core D Inner Chan) where
  -- the machine's channels, a ring for each core, and the overseer of their clocks
  pub record AreOf (chans : List D) (asks : List (Receiver Ask)) (overseer : Overseer) : Type 0 where
    pub chan_count : length chans ≡ rules.channels
    pub own_chans : AllNumbered (IsChanOf rules owns) 0 (map values.chan chans)
    pub rings : length asks ≡ rules.cores
    pub clocks : cores_of overseer ≡ rules.cores

  -- a manager that is one of the machine, and has served and sent nothing from its channels on
  pub record IsReadyFrom (chans : List D) (m : Manager D) : Type 0 where
    pub ready : IsReadyManager rules owns values m
    pub through : IsThrough rules values (map values.chan chans) m

  abbrev pub AllReadyOpenings : Type 0
  AllReadyOpenings =
      (chans : List D) (asks : List (Receiver Ask)) (posts : List (Sender Post)) (overseer : Overseer) (m : Manager D)
      → IsOpening chans asks posts overseer m → AreUnused asks posts → AreOf chans asks overseer → IsReadyFrom chans m
