-- What is so of a manager at all times, and what it has come to since its channels were these.
use Rattle.std.specs.Prelude.{◌≡◌, ℕ, List, ◌++◌, All, length, map}
use Rattle.std.specs.List.{AllByRecursion as Each}
use Rattle.core_gate.specs.Seats.{cores_of}
use Rattle.slack_base.specs.declared.messages.Ask.{Ask}
use Rattle.stamp_queue.specs.Rings.{all_sent, all_received}
use Rattle.target_law.specs.Cycles.{through}
use Rattle.target_law.specs.Drifts.{asks_by, posts_to}
use Rattle.target_law.specs.Numbered.{AllNumbered}
use Rattle.target_law.specs.Proper.{IsProperAsk, IsPostTo, IsChanOf}
use Rattle.target_law.specs.Rules.{Rules, Owns}
use Rattle.target_law.specs.Values.{Values}
use Rattle.violation_watch.specs.Watching.{SawServed}
use Rattle.manager.specs.declared.managers.Desk.{Desk}
use Rattle.manager.specs.declared.managers.Manager.{Manager}
use Rattle.manager.specs.Places.{EachPlace}

module _ {Inner Chan : Type 0} (rules : Rules Inner Chan) where
  -- the desk of the core of this number, once these asks were served
  pub record IsReadyDesk (served : List Ask) (c : ℕ) (desk : Desk) : Type 0 where
    pub received : all_received desk.asks ≡ asks_by c served ++ desk.pending.items
    pub sent : All (IsPostTo rules c) (all_sent desk.posts)

  module _ (owns : Owns Inner Chan) {Core D : Type 0} (values : Values Core D Inner Chan) where
    -- a manager of the machine: its channels, each in its place, a desk for each core, and a watch that saw all that was
    -- served
    pub record IsReadyManager (m : Manager D) : Type 0 where
      pub chan_count : length m.chans.items ≡ rules.channels
      pub chans : AllNumbered (IsChanOf rules owns) 0 (map values.chan m.chans.items)
      pub served : Each (IsProperAsk rules) m.served
      pub desk_count : length m.desks.items ≡ rules.cores
      pub clock_count : cores_of m.overseer ≡ rules.cores
      pub desks : EachPlace (IsReadyDesk m.served) m.desks.items
      pub watch : SawServed rules m.clashes m.served m.watch

module _ {Inner Chan : Type 0} (rules : Rules Inner Chan) {Core D : Type 0} (values : Values Core D Inner Chan) where
  -- from these channels on, the manager has served what it served, and sent what came of it
  pub record IsThrough (start : List Chan) (m : Manager D) : Type 0 where
    pub chans : map values.chan m.chans.items ≡ (through rules start m.served).chans
    pub clashes : m.clashes ≡ (through rules start m.served).clashes
    pub desks : EachPlace (λ c desk. all_sent desk.posts ≡ posts_to c (through rules start m.served).posts) m.desks.items
