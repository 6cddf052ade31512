-- What is so of every actor that has just begun.
use Rattle.std.specs.Prelude.{◌≡◌, ℕ, ◌≤◌, []}
use Rattle.slack_base.specs.declared.bounds.TheConstants.{TOP}
use Rattle.slack_base.specs.declared.messages.Ask.{Ask}
use Rattle.slack_base.specs.declared.messages.Post.{Post}
use Rattle.stamp_queue.specs.declared.senders.Sender.{Sender}
use Rattle.stamp_queue.specs.declared.receivers.Receiver.{Receiver}
use Rattle.stamp_queue.specs.Rings.{all_sent, all_received}
use Rattle.core_gate.specs.declared.pacers.Pacer.{Pacer}
use Rattle.target_law.specs.Proper.{IsCoreOf}
use Rattle.target_law.specs.Rules.{Rules, Owns}
use Rattle.target_law.specs.Values.{Values}
use Rattle.core_actor.specs.Actors.{IsBegun, IsReady, IsAlone}
use Rattle.core_actor.specs.declared.actors.CoreActor.{CoreActor}

module _ {Core Chan Inner Channel : Type 0} (rules : Rules Inner Channel) (owns : Owns Inner Channel) (values : Values Core Chan Inner Channel) where
  -- an actor of the machine's core of its pacer's number has begun, for a drift that ends at this clock
  pub record IsBegunFor (end : ℕ) (core : Core) (asks : Sender Ask) (posts : Receiver Post) (pacer : Pacer) (a : CoreActor Core) : Type 0 where
    pub begun : IsBegun core asks posts pacer a
    pub own : IsCoreOf rules owns pacer.number (values.core core)
    pub sent : all_sent asks ≡ []
    pub received : all_received posts ≡ []
    pub below : pacer.clock ≤ end
    pub top : end ≤ TOP

  -- then it is ready, and it comes of its core
  abbrev pub AllBegin : Type 0
  AllBegin =
      (end : ℕ) (core : Core) (asks : Sender Ask) (posts : Receiver Post) (pacer : Pacer) (a : CoreActor Core)
      → IsBegunFor end core asks posts pacer a
      → IsReady rules owns values end a × IsAlone rules values pacer.clock (values.core core) a
