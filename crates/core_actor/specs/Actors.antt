-- A core's actor: how it begins, what it keeps to, and what a leg of it does.
use Rattle.std.specs.Prelude.{◌≡◌, ℕ, ◌+◌, ◌<◌, ◌≤◌, ◌⊎◌, ◌==◌, ◌&&◌, Bool, false, IsTrue, IsFalse, List, [], ◌∷◌, ◌++◌, length, map}
use Rattle.std.specs.List.{AllByRecursion as Each}
use Rattle.slack_base.specs.declared.bounds.TheConstants.{TOP}
use Rattle.slack_base.specs.declared.messages.Ask.{Ask}
use Rattle.slack_base.specs.declared.messages.Post.{Post}
use Rattle.slack_base.specs.Inboxes.{CoreValue}
use Rattle.slack_base.specs.Messages.{id_of}
use Rattle.stamp_queue.specs.declared.senders.Sender.{Sender}
use Rattle.stamp_queue.specs.declared.receivers.Receiver.{Receiver}
use Rattle.stamp_queue.specs.Rings.{all_sent, all_received, waiting, free_slots, known, slot_count, SameSender, SameReceiver}
use Rattle.core_gate.specs.declared.pacers.Pacer.{Pacer}
use Rattle.core_gate.specs.Seats.{SamePacer}
use Rattle.io_edge.specs.Holds.{Holds}
use Rattle.target_law.specs.Alone.{Alone}
use Rattle.target_law.specs.Proper.{IsPostTo, IsCoreOf}
use Rattle.target_law.specs.Rules.{Rules, Owns}
use Rattle.target_law.specs.Served.{AreRising}
use Rattle.target_law.specs.Values.{Values}
use Rattle.violation_watch.specs.Watching.{IsNew, SawTaken}
use Rattle.drive_script.specs.Open.{IsAskOf}
use Rattle.core_actor.specs.declared.actors.CoreActor.{CoreActor}

-- an actor of this core with these ends, at the clock of its pacer: nothing was taken, and nothing waits
pub record IsBegun {Core : Type 0} (core : Core) (asks : Sender Ask) (posts : Receiver Post) (pacer : Pacer) (a : CoreActor Core) : Type 0 where
  pub has_core : a.lane.core ≡ core
  pub clock : a.lane.clock ≡ pacer.clock
  pub no_asks : a.lane.asks.items ≡ []
  pub no_posts : a.lane.posts.items ≡ []
  pub taken : a.lane.taken ≡ []
  pub sends : a.asks ≡ asks
  pub receives : a.posts ≡ posts
  pub paced : a.pacer ≡ pacer
  pub watches : IsNew a.watch

-- whether a post waits, and the oldest is one of the machine's to the core of this number
abbrev pub is_next_proper : {Inner Chan : Type 0} → Rules Inner Chan → (place : ℕ) → List Post → Bool
is_next_proper rules place [] = false
is_next_proper rules place (p ∷ posts) = rules.is_proper_post p && (p.to == place)

-- no ask waits beside a slot that is known to be free
abbrev pub HasFlushed : Sender Ask → Type 0
HasFlushed s = (waiting s ≡ []) ⊎ (free_slots s ≡ 0)

-- no more was shown, or as many posts were received as the ring has slots
abbrev pub HasReceived : Receiver Post → Receiver Post → Type 0
HasReceived a b = (known b ≡ []) ⊎ (length (all_received a) + slot_count a ≤ length (all_received b))

-- an actor before and after some steps of a leg, at least one turn among them: messages have passed
pub record HasTurned {Core Inner Chan : Type 0} (rules : Rules Inner Chan) (a b : CoreActor Core) : Type 0 where
  pub sent : HasFlushed b.asks
  pub received : HasReceived a.posts b.posts
  -- what was received was taken, up to the first post that isn't proper
  pub taken : IsFalse (is_next_proper rules b.pacer.number b.lane.posts.items)

-- what the core has become, and all asks that were sent, are what comes of this core alone from clock `from` on, by the
-- posts that were taken
pub record IsAlone {Core Chan Inner Channel : Type 0} (rules : Rules Inner Channel) (values : Values Core Chan Inner Channel) (from : ℕ) (first : CoreValue Inner) (a : CoreActor Core) : Type 0 where
  pub count : ℕ
  pub at : a.lane.clock ≡ from + count
  pub alone : Alone rules first from count a.lane.taken (values.core a.lane.core) (all_sent a.asks)

module _ {Core Chan Inner Channel : Type 0} (rules : Rules Inner Channel) (owns : Owns Inner Channel) (values : Values Core Chan Inner Channel) where
  -- what is so of an actor between turns, in a drift that ends at this clock. Its number is its pacer's
  pub record IsReady (end : ℕ) (a : CoreActor Core) : Type 0 where
    pub core : IsCoreOf rules owns a.pacer.number (values.core a.lane.core)
    pub paced : a.lane.clock ≡ a.pacer.clock
    pub below : a.lane.clock ≤ end
    pub top : end ≤ TOP
    -- no ask is held back; those that were sent are its own, of ticks below its clock, in the order of their ids
    pub no_asks : a.lane.asks.items ≡ []
    pub sent : Each (IsAskOf rules a.pacer.number) (all_sent a.asks)
    pub rising : AreRising (all_sent a.asks)
    pub earlier : Each (λ ask. (id_of ask).cycle < a.lane.clock) (all_sent a.asks)
    -- of what was received a front was taken, each post of it proper, and the rest waits
    pub received : all_received a.posts ≡ map (λ x. x.post) a.lane.taken ++ a.lane.posts.items
    pub proper : Each (λ x. IsPostTo rules a.pacer.number x.post) a.lane.taken
    -- the watch saw what was taken
    pub watched : SawTaken a.pacer.number end a.lane.taken a.watch

  -- an actor before and after some steps of a leg
  pub record Went (end : ℕ) (a b : CoreActor Core) : Type 0 where
    pub ready : IsReady end b
    pub asks : SameSender a.asks b.asks
    pub posts : SameReceiver a.posts b.posts
    pub pacer : SamePacer a.pacer b.pacer
    pub received : (more : List Post) × (all_received b.posts ≡ all_received a.posts ++ more)
    pub seen : a.pacer.seen ≤ b.pacer.seen
    pub clock : a.lane.clock ≤ b.lane.clock
    -- whatever it came of before, it comes of still
    pub alone : (from : ℕ) (first : CoreValue Inner) → IsAlone rules values from first a → IsAlone rules values from first b

  -- an actor before and after a leg, beside a gate that holds cores so
  pub record Ran (holds : Holds) (end : ℕ) (a b : CoreActor Core) : Type 0 where
    pub went : Went end a b
    -- where it wasn't at the end clock, it had a turn
    pub turned : a.lane.clock < end → HasTurned rules a b
    -- it made no tick where the core had to be held
    pub unheld : (t : ℕ) → a.lane.clock ≤ t → t < b.lane.clock → IsFalse (holds.must a.pacer.number t)
    -- it ended at the end clock, or where it could go no further: at the slack, or where the core may be held
    pub ends : (b.lane.clock ≡ end) ⊎ (b.pacer.seen + b.pacer.slack ≤ b.lane.clock) ⊎ IsTrue (holds.may a.pacer.number b.lane.clock)
