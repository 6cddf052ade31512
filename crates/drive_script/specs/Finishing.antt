-- Finishing: how a drift is completed, one step after another, in one order.
use Rattle.std.specs.Prelude.{◌≡◌, ℕ, ◌<◌, Bool, All, IsTrue, IsFalse, List, [], ◌∷◌, Option, Some, None, nat_lt, if◌then◌else◌}
use Rattle.slack_base.specs.declared.messages.Ask.{Ask}
use Rattle.slack_base.specs.declared.messages.Post.{Post}
use Rattle.slack_base.specs.declared.stamps.Id.{Id}
use Rattle.slack_base.specs.declared.steps.Step.{Step}
use Rattle.slack_base.specs.declared.steps.Step.TheVariants.{Tick, Serve, Take}
use Rattle.slack_base.specs.Messages.{id_of}
use Rattle.slack_base.specs.Stamps.{is_above}
use Rattle.target_law.specs.Cycles.{seen_at}
use Rattle.target_law.specs.Rules.{Rules}
use Rattle.drive_script.specs.Worlds.{LaneValue, WorldValue, oldest, stepped}

-- of the places that have a key this one has the least, and it is the first of those with the least
pub record IsFirstLeast (K : Type 0) (is_less : K → K → Bool) (key : ℕ → Option K) (place : ℕ) (least_key : K) : Type 0 where
  pub here : key place ≡ Some least_key
  pub least : (j : ℕ) (other : K) → key j ≡ Some other → IsFalse (is_less other least_key)
  pub first : (j : ℕ) (other : K) → j < place → key j ≡ Some other → IsTrue (is_less least_key other)

-- no place has a key
abbrev pub NoKey : {K : Type 0} → (ℕ → Option K) → Type 0
NoKey key = (j : ℕ) → key j ≡ None

-- the first id comes before the second
abbrev pub is_before : Id → Id → Bool
is_before i j = is_above j i

abbrev pub first_id : List Ask → Option Id
first_id [] = None
first_id (x ∷ asks) = Some (id_of x)

module _ {Inner : Type 0} where
  -- the id of the core's oldest ask that wasn't served
  abbrev pub oldest_id : List (LaneValue Inner) → ℕ → Option Id
  oldest_id lanes c = seen_at c (λ lane. first_id lane.asks) None lanes

  -- the oldest post that it hasn't taken
  abbrev pub oldest_post : List (LaneValue Inner) → ℕ → Option Post
  oldest_post lanes c = seen_at c (λ lane. oldest lane.posts) None lanes

  -- its clock, where that is below the end clock
  abbrev pub open_clock : (end : ℕ) → List (LaneValue Inner) → ℕ → Option ℕ
  open_clock end lanes c = seen_at c (λ lane. if nat_lt lane.clock end then Some lane.clock else None) None lanes

  -- this is the id of the core's oldest ask, and no ask that waits has a lesser one; no core before it has an ask of that id
  pub record IsOldest (lanes : List (LaneValue Inner)) (c : ℕ) (id : Id) : Type 0 where
    pub here : oldest_id lanes c ≡ Some id
    pub least : All (λ lane. All (λ ask. IsFalse (is_before (id_of ask) id)) lane.asks) lanes
    pub first : (j : ℕ) (other : Id) → j < c → oldest_id lanes j ≡ Some other → IsTrue (is_before id other)

  -- this core is the first for which a post waits
  pub record IsFirst (lanes : List (LaneValue Inner)) (c : ℕ) (p : Post) : Type 0 where
    pub here : oldest_post lanes c ≡ Some p
    pub first : (j : ℕ) → j < c → oldest_post lanes j ≡ None

  -- the step that finishing takes next. All asks are served, the least id first; then each core, in core order, takes all
  -- its posts; and then the first of the slowest cores ticks
  pub data IsNext (end : ℕ) (lanes : List (LaneValue Inner)) : Step → Type 0 where
    serves : {c : ℕ} (id : Id) → IsOldest lanes c id → IsNext end lanes (Serve c)
    takes : {c : ℕ} (p : Post) → NoKey (oldest_id lanes) → IsFirst lanes c p → IsNext end lanes (Take c)
    ticks : {c : ℕ} (clock : ℕ) → NoKey (oldest_id lanes) → NoKey (oldest_post lanes) → IsFirstLeast ℕ nat_lt (open_clock end lanes) c clock → IsNext end lanes (Tick c)

  -- nothing waits, and every core is at the end clock
  pub record IsFinished (end : ℕ) (lanes : List (LaneValue Inner)) : Type 0 where
    pub served : NoKey (oldest_id lanes)
    pub taken : NoKey (oldest_post lanes)
    pub ended : NoKey (open_clock end lanes)

-- finishing leads from the first world to the second
pub data Finishes {Inner Chan : Type 0} (rules : Rules Inner Chan) : WorldValue Inner Chan → WorldValue Inner Chan → Type 0 where
  done : {w : WorldValue Inner Chan} → IsFinished w.end w.lanes → Finishes rules w w
  goes : {w e : WorldValue Inner Chan} (x : Step) → IsNext w.end w.lanes x → Finishes rules (stepped rules x w) e → Finishes rules w e
