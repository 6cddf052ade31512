-- One step of a lane, field by field; and a core alone, one step further.
use Rattle.std.proofs.Common.{◌≡◌, ◌∙◌, ℕ, ◌+◌, ◌-◌, ◌<◌, suc, List, [], ◌∷◌, ◌++◌, length, get_or, Some, Bool, true, false, ◌&&◌, ◌==◌, cond, IsTrue, Result, Ok, Err, OnOk, refl, sym, ap, subst, arith}
use Rattle.std.specs.List.{slice_get}
use Rattle.std.proofs.lemmas.Bool.{lt-ltb}
use Rattle.std.proofs.lemmas.List.{length-append, get_or_push}
use Rattle.std.proofs.lemmas.Option.{get_or_from_slice_get}
use Rattle.slack_base.specs.declared.histories.Taken.{Taken}
use Rattle.slack_base.specs.declared.messages.Ask.{Ask}
use Rattle.slack_base.specs.declared.messages.Post.{Post}
use Rattle.slack_base.specs.Inboxes.{CoreValue, with_put}
use Rattle.target_law.specs.Alone.{Alone, takes, ticks, taking}
use Rattle.target_law.specs.Cycles.{tick_of}
use Rattle.target_law.specs.Proper.{IsPostTo}
use Rattle.target_law.specs.Rules.{Rules}
use Rattle.target_law.specs.Values.{Values}
use Rattle.target_law.proofs.Numbers.{eq_of}
use Rattle.drive_script.specs.Open.{IsNextTo}
use Rattle.drive_script.specs.Views.{lane_of}
use Rattle.drive_script.specs.Worlds.{LaneValue, lane_ticked, lane_taking}
use Rattle.drive_script.specs.declared.lanes.Lane.{Lane}
use Rattle.core_actor.specs.Actors.{is_next_proper}

-- the item that was put at the end
pub last_is : {X : Type 0} (xs ys : List X) (x y : X) → ys ≡ xs ++ x ∷ [] → Some y ≡ slice_get ys (length ys - 1) → y ≡ x
last_is xs ys x y more e =
    let count : length ys ≡ length xs + 1 = ap length more ∙ length-append xs (x ∷ []) in
    sym (get_or_from_slice_get ys (length ys - 1) y y (sym e))
    ∙ ap (λ zs. get_or zs (length ys - 1) y) more
    ∙ get_or_push xs x y (length ys - 1) (omega arith)

pub on_ok : {X E P Q : Type 0} (s : Result X E) → (P → Q) → OnOk s P → OnOk s Q
on_ok (Ok x) f h = f h
on_ok (Err e) f h = tt

module _ {Inner Chan : Type 0} (rules : Rules Inner Chan) where
  pub alone_takes : (from count clock : ℕ) (first : CoreValue Inner) (taken : List Taken) (now : CoreValue Inner) (asks : List Ask) (p : Post) → clock ≡ from + count
      → Alone rules first from count taken now asks → Alone rules first from count (taken ++ taking rules clock now.inner p ∷ []) (with_put p now) asks
  alone_takes from count clock first taken now asks p at h = subst (λ t. Alone rules first from count (taken ++ taking rules t now.inner p ∷ []) (with_put p now) asks) (sym at) (takes p h)

  pub alone_ticks : (from count clock : ℕ) (first : CoreValue Inner) (taken : List Taken) (now : CoreValue Inner) (asks : List Ask) → clock ≡ from + count
      → Alone rules first from count taken now asks → Alone rules first from (suc count) taken (tick_of rules clock now).0 (asks ++ (tick_of rules clock now).1)
  alone_ticks from count clock first taken now asks at h = subst (λ t. Alone rules first from (suc count) taken (tick_of rules t now).0 (asks ++ (tick_of rules t now).1)) (sym at) (ticks h)

  -- the oldest post, where it is proper
  pub record Next (place : ℕ) (posts : List Post) : Type 0 where
    pub post : Post
    pub rest : List Post
    pub is : posts ≡ post ∷ rest
    pub own : IsPostTo rules place post

  both_tests : (a b : Bool) → (a && b) ≡ true → (a ≡ true) × (b ≡ true)
  both_tests true true h = (refl, refl)
  both_tests true false h = (refl, h)
  both_tests false b h = cc

  pub next_of : (place : ℕ) (posts : List Post) → IsTrue (is_next_proper rules place posts) → Next place posts
  next_of place [] h = cc
  next_of place (p ∷ posts) h =
      let both = both_tests (rules.is_proper_post p) (p.to == place) h in
      record { post = p; rest = posts; is = refl; own = record { proper = both.0; to = eq_of p.to place both.1 } }

  pub next_to : (place : ℕ) (posts : List Post) → IsTrue (is_next_proper rules place posts) → IsNextTo rules place posts
  next_to place [] h = tt
  next_to place (p ∷ posts) h =
      let both = both_tests (rules.is_proper_post p) (p.to == place) h in
      record { proper = both.0; to = eq_of p.to place both.1 }

  pub ticked_below : (end : ℕ) (lane : LaneValue Inner) → lane.clock < end
      → lane_ticked rules end lane ≡ record lane { core = (tick_of rules lane.clock lane.core).0; clock = lane.clock + 1; asks = lane.asks ++ (tick_of rules lane.clock lane.core).1 }
  ticked_below end lane h =
      ap (λ b. cond b (record lane { core = (tick_of rules lane.clock lane.core).0; clock = lane.clock + 1; asks = lane.asks ++ (tick_of rules lane.clock lane.core).1 }) lane) (lt-ltb lane.clock end h)

  module _ {Core Channel : Type 0} (values : Values Core Channel Inner Chan) where
    -- a lane before and after it took a post
    pub record Took (p : Post) (rest : List Post) (l m : Lane Core) : Type 0 where
      pub core : values.core m.core ≡ with_put p (values.core l.core)
      pub clock : m.clock ≡ l.clock
      pub asks : m.asks.items ≡ l.asks.items
      pub posts : m.posts.items ≡ rest
      pub taken : m.taken ≡ l.taken ++ taking rules l.clock (values.core l.core).inner p ∷ []

    pub took_of : (posts : List Post) (p : Post) (rest : List Post) (l m : Lane Core) → posts ≡ p ∷ rest → lane_of values m ≡ lane_taking rules posts (lane_of values l) → Took p rest l m
    took_of posts p rest l m e h =
        let k : lane_of values m ≡ lane_taking rules (p ∷ rest) (lane_of values l) = h ∙ ap (λ ps. lane_taking rules ps (lane_of values l)) e in
        record {
          core = ap (λ (v : LaneValue Inner). v.core) k;
          clock = ap (λ (v : LaneValue Inner). v.clock) k;
          asks = ap (λ (v : LaneValue Inner). v.asks) k;
          posts = ap (λ (v : LaneValue Inner). v.posts) k;
          taken = ap (λ (v : LaneValue Inner). v.taken) k;
        }

    -- a lane before and after a tick
    pub record Ticked (l m : Lane Core) : Type 0 where
      pub core : values.core m.core ≡ (tick_of rules l.clock (values.core l.core)).0
      pub clock : m.clock ≡ l.clock + 1
      pub asks : m.asks.items ≡ l.asks.items ++ (tick_of rules l.clock (values.core l.core)).1
      pub posts : m.posts.items ≡ l.posts.items
      pub taken : m.taken ≡ l.taken

    pub ticked_of : (end : ℕ) (l m : Lane Core) → l.clock < end → lane_of values m ≡ lane_ticked rules end (lane_of values l) → Ticked l m
    ticked_of end l m below h =
        let k = h ∙ ticked_below end (lane_of values l) below in
        record {
          core = ap (λ (v : LaneValue Inner). v.core) k;
          clock = ap (λ (v : LaneValue Inner). v.clock) k;
          asks = ap (λ (v : LaneValue Inner). v.asks) k;
          posts = ap (λ (v : LaneValue Inner). v.posts) k;
          taken = ap (λ (v : LaneValue Inner). v.taken) k;
        }
