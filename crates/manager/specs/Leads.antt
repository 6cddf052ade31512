-- How a manager and its desks change in the steps of a leg.
use Rattle.std.specs.Prelude.{◌≡◌, ◌^◌, ◌≤◌, ◌-◌, ◌⊎◌, ℕ, List, [], ◌∷◌, ◌++◌, length, map, max}
use Rattle.core_gate.specs.Seats.{SameOverseer}
use Rattle.core_gate.specs.Steps.{IsLeast}
use Rattle.slack_base.specs.declared.messages.Ask.{Ask}
use Rattle.slack_base.specs.declared.messages.Post.{Post}
use Rattle.stamp_queue.specs.Rings.{all_sent, SameSender, SameReceiver, HandsOver}
use Rattle.target_law.specs.Cycles.{through}
use Rattle.target_law.specs.Drifts.{posts_to}
use Rattle.target_law.specs.Rules.{Rules, Owns}
use Rattle.target_law.specs.Values.{Values}
use Rattle.violation_watch.specs.Watching.{SawServed}
use Rattle.drive_script.specs.Finishing.{NoKey}
use Rattle.manager.specs.declared.managers.Desk.{Desk}
use Rattle.manager.specs.declared.managers.Manager.{Manager}
use Rattle.manager.specs.Managers.{IsReadyManager, IsThrough}
use Rattle.manager.specs.Places.{PlacePairs}
use Rattle.manager.specs.Queues.{queues_of, next_id, ServesAll}

-- the ends of the same rings
pub record SameDesk (c : ℕ) (d e : Desk) : Type 0 where
  pub asks : SameReceiver d.asks e.asks
  pub posts : SameSender d.posts e.posts

-- the desk of core c before and after these posts were sent
pub record Sent (posts : List Post) (c : ℕ) (d e : Desk) : Type 0 where
  pub asks : e.asks ≡ d.asks
  pub pending : e.pending ≡ d.pending
  pub sent : all_sent e.posts ≡ all_sent d.posts ++ posts_to c posts
  pub same : SameSender d.posts e.posts

-- a desk before and after some asks were received, which wait there now
pub record Received (c : ℕ) (d e : Desk) : Type 0 where
  pub items : HandsOver d.asks e.asks d.pending.items e.pending.items
  pub sent : all_sent e.posts ≡ all_sent d.posts
  pub same : SameDesk c d e

module _ {Inner Chan : Type 0} (rules : Rules Inner Chan) where
  module _ {Core D : Type 0} (values : Values Core D Inner Chan) where
    -- an ask was served; its posts weren't sent yet
    pub record ServedOne (x : Ask) (a b : Manager D) : Type 0 where
      pub served : b.served ≡ a.served ++ x ∷ []
      pub chans : map values.chan b.chans.items ≡ (through rules (map values.chan a.chans.items) (x ∷ [])).chans
      pub clashes : b.clashes ≡ a.clashes ++ (through rules (map values.chan a.chans.items) (x ∷ [])).clashes
      pub posts : b.posts ≡ (through rules (map values.chan a.chans.items) (x ∷ [])).posts
      pub watch : SawServed rules a.clashes a.served a.watch → SawServed rules b.clashes b.served b.watch
      pub desks : b.desks ≡ a.desks
      pub overseer : b.overseer ≡ a.overseer

  module _ (owns : Owns Inner Chan) {Core D : Type 0} (values : Values Core D Inner Chan) where
    -- a manager before and after some steps of its leg
    pub record Led (a b : Manager D) : Type 0 where
      pub ready : IsReadyManager rules owns values b
      pub desks : PlacePairs SameDesk a.desks.items b.desks.items
      pub overseer : SameOverseer a.overseer b.overseer
      pub rises : a.overseer.global ≤ b.overseer.global
      pub served : (asks : List Ask) × (b.served ≡ a.served ++ asks)
      -- whatever channels it began with
      pub through : (start : List Chan) → IsThrough rules values start a → IsThrough rules values start b

  module _ {D : Type 0} where
    -- a manager before and after a turn
    pub record Turned (a b : Manager D) : Type 0 where
      -- its desks, once all was received
      pub desks : List Desk
      pub received : PlacePairs Received a.desks.items desks
      pub asks : List Ask
      pub served : b.served ≡ a.served ++ asks
      pub order : ServesAll rules (queues_of desks) asks (queues_of b.desks.items)
      -- global time is the least of the clocks last looked at, where that is above what it was
      pub raised : (n : ℕ) × IsLeast n b.overseer.lows.items × (b.overseer.global ≡ max a.overseer.global n)

    -- why a leg ends: global time has come so far, or 2^32 asks were served, or no ask that waits may be served
    abbrev pub Ended : (end : ℕ) → Manager D → Manager D → Type 0
    Ended end a b = (end ≤ b.overseer.global) ⊎ (2 ^ 32 ≤ length b.served - length a.served) ⊎ NoKey (next_id rules (queues_of b.desks.items))
