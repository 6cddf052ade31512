-- Drifts in pieces: every core ticks alone through a piece, the asks of the piece are served in the order of their ids, and
-- their posts are taken at its end.
use Rattle.std.specs.Prelude.{◌≡◌, ℕ, ◌+◌, ◌-◌, ◌<◌, List, [], ◌∷◌, ◌++◌, map, min, Option}
use Rattle.std.specs.List.{flat_map}
use Rattle.std.specs.List.Sorted.{IsPermutation}
use Rattle.slack_base.specs.declared.histories.Drift.{Drift}
use Rattle.slack_base.specs.declared.histories.Taken.{Taken}
use Rattle.slack_base.specs.declared.messages.Ask.{Ask}
use Rattle.slack_base.specs.declared.messages.Post.{Post}
use Rattle.slack_base.specs.declared.stamps.Id.{Id}
use Rattle.slack_base.specs.Inboxes.{CoreValue, with_put}
use Rattle.target_law.specs.Alone.{taking}
use Rattle.target_law.specs.Cycles.{StateValue, changed_at, ticks_of, through}
use Rattle.target_law.specs.Rules.{Rules}
use Rattle.target_law.specs.Served.{AreRising}

-- a core, and the posts that it took so far
pub record LaneValue (Inner : Type 0) : Type 0 where
  pub core : CoreValue Inner
  pub taken : List Taken

-- a drift between two pieces: the clock of all cores, their lanes, the channels, and the asks that were served with what
-- each clashed with
pub record UnderwayValue (Inner Chan : Type 0) : Type 0 where
  pub clock : ℕ
  pub lanes : List (LaneValue Inner)
  pub chans : List Chan
  pub served : List Ask
  pub clashes : List (Option Id)

module _ {Inner : Type 0} where
  -- a core that took nothing
  abbrev pub lane_begun : CoreValue Inner → LaneValue Inner
  lane_begun core = record { core = core; taken = [] }

module _ {Inner Chan : Type 0} where
  -- before the first piece
  abbrev pub begun : StateValue Inner Chan → UnderwayValue Inner Chan
  begun s = record { clock = s.clock; lanes = map lane_begun s.cores; chans = s.chans; served = []; clashes = [] }

  -- the history of k cycles from this clock
  abbrev pub history : (start k : ℕ) → UnderwayValue Inner Chan → Drift
  history start k w = record { start = start; len = k; served = w.served; clashes = w.clashes; sent = map (λ lane. lane.taken) w.lanes }

module _ {Inner Chan : Type 0} (rules : Rules Inner Chan) where
  -- a lane whose core ticks by itself through k cycles from clock t, with no new post: it after them, and the asks that it
  -- sends
  abbrev pub lane_ticked : (t k : ℕ) → LaneValue Inner → LaneValue Inner × List Ask
  lane_ticked t k lane = (record lane { core = (ticks_of rules t k lane.core).0 }, (ticks_of rules t k lane.core).1)

  -- the asks of all cores
  abbrev pub asks_through : (t k : ℕ) → List (LaneValue Inner) → List Ask
  asks_through t k lanes = flat_map (λ lane. (lane_ticked t k lane).1) lanes

  -- a core takes a post at a clock
  abbrev pub lane_taking : (clock : ℕ) → Post → LaneValue Inner → LaneValue Inner
  lane_taking clock p lane = record { core = with_put p lane.core; taken = lane.taken ++ taking rules clock lane.core.inner p ∷ [] }

  -- posts are taken at a clock, one after another, each by the core that it is addressed to
  abbrev pub all_taking : (clock : ℕ) → List (LaneValue Inner) → List Post → List (LaneValue Inner)
  all_taking clock lanes [] = lanes
  all_taking clock lanes (p ∷ posts) = all_taking clock (changed_at p.to (lane_taking clock p) lanes) posts

  -- a piece of k cycles in which these asks are served: every core ticks through it, the asks are served one after
  -- another, each on its channel, and their posts are taken at the clock at which the piece ends
  unfoldable pub pieced : (k : ℕ) → List Ask → UnderwayValue Inner Chan → UnderwayValue Inner Chan
  pieced k asks w =
      let out = through rules w.chans asks in
      record {
        clock = w.clock + k;
        lanes = all_taking (w.clock + k) (map (λ lane. (lane_ticked w.clock k lane).0) w.lanes) out.posts;
        chans = out.chans;
        served = w.served ++ asks;
        clashes = w.clashes ++ out.clashes;
      }

  -- a piece of k cycles: the asks that the cores send in it are served in the order of their ids
  pub record IsPiece (k : ℕ) (w v : UnderwayValue Inner Chan) : Type 0 where
    pub asks : List Ask
    pub sent : IsPermutation (asks_through w.clock k w.lanes) asks
    pub rising : AreRising asks
    pub after : v ≡ pieced k asks w

  -- pieces of so many cycles one after another up to the end clock, the last one cut to it
  pub data ByPieces (quantum end : ℕ) : UnderwayValue Inner Chan → UnderwayValue Inner Chan → Type 0 where
    ended : {w : UnderwayValue Inner Chan} → w.clock ≡ end → ByPieces quantum end w w
    piece : {w v e : UnderwayValue Inner Chan}
        → w.clock < end → IsPiece (min quantum (end - w.clock)) w v → ByPieces quantum end v e → ByPieces quantum end w e

  -- the state that is left at the end: the channels are closed
  abbrev pub closed : UnderwayValue Inner Chan → StateValue Inner Chan
  closed w = record { clock = w.clock; cores = map (λ lane. lane.core) w.lanes; chans = map rules.close w.chans }

  -- over k cycles from a state, pieces of so many cycles leave this history and this state
  pub record IsPieces (quantum k : ℕ) (s : StateValue Inner Chan) (d : Drift) (e : StateValue Inner Chan) : Type 0 where
    pub last : UnderwayValue Inner Chan
    pub pieces : ByPieces quantum (s.clock + k) (begun s) last
    pub drift : d ≡ history s.clock k last
    pub end : e ≡ closed last
