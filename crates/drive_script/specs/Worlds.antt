-- The world of a given interleaving: each core at its own clock, the channels, and what waits between them.
use Rattle.std.specs.Prelude.{ℕ, ◌+◌, List, [], ◌∷◌, ◌++◌, Option, Some, None, nat_lt, if◌then◌else◌}
use Rattle.slack_base.specs.declared.histories.Taken.{Taken}
use Rattle.slack_base.specs.declared.messages.Ask.{Ask}
use Rattle.slack_base.specs.declared.messages.Post.{Post}
use Rattle.slack_base.specs.declared.stamps.Id.{Id}
use Rattle.slack_base.specs.declared.steps.Step.{Step}
use Rattle.slack_base.specs.declared.steps.Step.TheVariants.{Tick, Serve, Take}
use Rattle.slack_base.specs.Inboxes.{CoreValue, with_put}
use Rattle.target_law.specs.Alone.{taking}
use Rattle.target_law.specs.Cycles.{changed_at, seen_at, tick_of, through}
use Rattle.target_law.specs.Rules.{Rules}

-- a core at its own clock, its asks that weren't served yet and the posts that it hasn't taken yet, the oldest first, and
-- the posts that it took
pub record LaneValue (Inner : Type 0) : Type 0 where
  pub core : CoreValue Inner
  pub clock : ℕ
  pub asks : List Ask
  pub posts : List Post
  pub taken : List Taken

-- a lane for each core, the channels, the asks that were served with what each clashed with, and the clock at which every
-- core is to end
pub record WorldValue (Inner Chan : Type 0) : Type 0 where
  pub end : ℕ
  pub lanes : List (LaneValue Inner)
  pub chans : List Chan
  pub served : List Ask
  pub clashes : List (Option Id)

abbrev pub oldest : {X : Type 0} → List X → Option X
oldest [] = None
oldest (x ∷ xs) = Some x

abbrev pub younger : {X : Type 0} → List X → List X
younger [] = []
younger (x ∷ xs) = xs

module _ {Inner : Type 0} where
  -- the core's oldest ask waits no more
  abbrev pub without_oldest : LaneValue Inner → LaneValue Inner
  without_oldest lane = record lane { asks = younger lane.asks }

  -- a post waits behind those that wait for the core already
  abbrev pub with_waiting : Post → LaneValue Inner → LaneValue Inner
  with_waiting p lane = record lane { posts = lane.posts ++ p ∷ [] }

  -- posts wait, one after another, each for the core that it is addressed to
  abbrev pub posted : List (LaneValue Inner) → List Post → List (LaneValue Inner)
  posted lanes [] = lanes
  posted lanes (p ∷ posts) = posted (changed_at p.to (with_waiting p) lanes) posts

  -- the oldest ask of the core of this number that wasn't served, if there are such a core and such an ask
  abbrev pub oldest_ask : List (LaneValue Inner) → ℕ → Option Ask
  oldest_ask lanes c = seen_at c (λ lane. oldest lane.asks) None lanes

module _ {Inner Chan : Type 0} (rules : Rules Inner Chan) where
  -- a core below the end clock ticks at its clock, and its asks wait
  abbrev pub lane_ticked : (end : ℕ) → LaneValue Inner → LaneValue Inner
  lane_ticked end lane =
      let ticked = tick_of rules lane.clock lane.core in
      if nat_lt lane.clock end then record lane { core = ticked.0; clock = lane.clock + 1; asks = lane.asks ++ ticked.1 } else lane

  -- a core takes the oldest of the posts that wait for it, at its clock
  abbrev pub lane_taking : List Post → LaneValue Inner → LaneValue Inner
  lane_taking [] lane = lane
  lane_taking (p ∷ posts) lane =
      record lane { core = with_put p lane.core; posts = posts; taken = lane.taken ++ taking rules lane.clock lane.core.inner p ∷ [] }

  -- the oldest ask of the core of this number is served on its channel, and its posts wait
  abbrev pub world_serving : ℕ → Option Ask → WorldValue Inner Chan → WorldValue Inner Chan
  world_serving c None w = w
  world_serving c (Some ask) w =
      let out = through rules w.chans (ask ∷ []) in
      record w {
        lanes = posted (changed_at c (λ lane. without_oldest lane) w.lanes) out.posts;
        chans = out.chans;
        served = w.served ++ ask ∷ [];
        clashes = w.clashes ++ out.clashes;
      }

  -- a step; one that can't be done changes nothing
  unfoldable pub stepped : Step → WorldValue Inner Chan → WorldValue Inner Chan
  stepped (Tick c) w = record w { lanes = changed_at c (lane_ticked w.end) w.lanes }
  stepped (Serve c) w = world_serving c (oldest_ask w.lanes c) w
  stepped (Take c) w = record w { lanes = changed_at c (λ lane. lane_taking lane.posts lane) w.lanes }

  -- steps one after another
  abbrev pub stepped_all : List Step → WorldValue Inner Chan → WorldValue Inner Chan
  stepped_all [] w = w
  stepped_all (x ∷ steps) w = stepped_all steps (stepped x w)
