-- What is so of a core's part at the end of a drift by threads, and what it has come to since a state.
use Rattle.std.specs.Prelude.{◌≡◌, ◌+◌, ◌<◌, ◌≤◌, ℕ, List, ◌++◌, map}
use Rattle.std.specs.List.{AllByRecursion as Each}
use Rattle.manager.specs.declared.managers.Manager.{Manager}
use Rattle.slack_base.specs.Inboxes.{CoreValue}
use Rattle.slack_base.specs.Messages.{id_of}
use Rattle.stamp_queue.specs.Rings.{all_sent, all_received}
use Rattle.target_law.specs.Alone.{Alone}
use Rattle.target_law.specs.Cycles.{StateValue}
use Rattle.target_law.specs.Proper.{IsCoreOf}
use Rattle.target_law.specs.Rules.{Rules, Owns}
use Rattle.target_law.specs.Served.{AreRising}
use Rattle.target_law.specs.Values.{Values}
use Rattle.drive_script.specs.Open.{IsAskOf}
use Rattle.manager.specs.Managers.{IsThrough}
use Rattle.manager.specs.Places.{PlacePairs}
use Rattle.settle.specs.declared.parts.Part.{Part}

module _ {Inner Chan : Type 0} (rules : Rules Inner Chan) (owns : Owns Inner Chan) {Core D : Type 0} (values : Values Core D Inner Chan) where
  -- the part of the core of this number: the asks that it sent are its own, in the order of their ids and of ticks before
  -- its clock; the posts that it received are those that it took, and then those that wait
  pub record IsReadyPart (end c : ℕ) (part : Part Core) : Type 0 where
    pub own : IsCoreOf rules owns c (values.core part.core)
    pub sent : Each (IsAskOf rules c) (all_sent part.asks)
    pub rising : AreRising (all_sent part.asks)
    pub earlier : Each (λ ask. (id_of ask).cycle < part.clock) (all_sent part.asks)
    pub received : all_received part.posts ≡ map (λ x. x.post) part.taken ++ part.waiting.items
    pub below : part.clock ≤ end

module _ {Inner Chan : Type 0} (rules : Rules Inner Chan) {Core D : Type 0} (values : Values Core D Inner Chan) where
  -- what a core, which was `first` at clock a, has come to: it took posts and ticked, and sent asks
  pub record IsPartUnderway (a c : ℕ) (first : CoreValue Inner) (part : Part Core) : Type 0 where
    pub count : ℕ
    pub at : part.clock ≡ a + count
    pub alone : Alone rules first a count part.taken (values.core part.core) (all_sent part.asks)

  -- a manager and the parts of all cores, in a drift that is under way from a state
  pub record AreUnderway (s : StateValue Inner Chan) (m : Manager D) (parts : List (Part Core)) : Type 0 where
    pub manager : IsThrough rules values s.chans m
    pub cores : PlacePairs (IsPartUnderway s.clock) s.cores parts
