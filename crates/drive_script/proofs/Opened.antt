-- Each step leaves a world with the machine's cores and channels in their places.
use Rattle.std.proofs.Common.{◌≡◌, ◌∙◌, ℕ, ◌+◌, ◌<◌, ◌≤◌, List, [], ◌∷◌, ◌++◌, length, true, false, cond, nat_lt, Option, Some, None, refl, sym, subst, arith}
use Rattle.std.specs.List.{All, AllByRecursion as Each}
use Rattle.std.proofs.lemmas.Bool.{ltb-true}
use Rattle.std.proofs.lemmas.List.{length-map}
use Rattle.std.proofs.lemmas.List.Elements.{All-from_recursion, recursion_from_All}
use Rattle.std.proofs.lemmas.Option.{none-some}
use Rattle.slack_base.specs.declared.bounds.TheConstants.{TOP}
use Rattle.slack_base.specs.declared.messages.Ask.{Ask}
use Rattle.slack_base.specs.declared.messages.Post.{Post}
use Rattle.slack_base.specs.declared.steps.Step.{Step}
use Rattle.slack_base.specs.declared.steps.Step.TheVariants.{Tick, Serve, Take}
use Rattle.slack_base.specs.Inboxes.{CoreValue}
use Rattle.slack_base.specs.Messages.{id_of}
use Rattle.slack_base.proofs.Inboxes.{all_with_post}
use Rattle.target_law.specs.Cycles.{StateValue, changed_at, tick_of, through}
use Rattle.target_law.specs.Laws.{Laws}
use Rattle.target_law.specs.Numbered.{AllNumbered}
use Rattle.target_law.specs.Proper.{IsProperAsk, IsProperPost, IsPostTo, IsCoreOf, IsProper}
use Rattle.target_law.specs.Rules.{Rules, Owns}
use Rattle.target_law.specs.Served.{AreRising, IsAbove}
use Rattle.target_law.proofs.Cores.{IsAskAt, ids_rise, ticked_core, tick_asks}
use Rattle.target_law.proofs.Ids.{later_above}
use Rattle.target_law.proofs.Lists.{each_weaker, each_append, pairwise_append, numbered_weaker, numbered_map}
use Rattle.target_law.proofs.Places.{length-changed, numbered_changed, numbered_seen}
use Rattle.target_law.proofs.Serving.{length-through, through_are, through_posts}
use Rattle.violation_watch.proofs.Lists.{each_both}
use Rattle.drive_script.specs.Open.{IsAskOf, IsNextTo, IsLaneOf, IsOpen}
use Rattle.drive_script.specs.Scripts.{begun, opened}
use Rattle.drive_script.specs.Worlds.{LaneValue, WorldValue, oldest, younger, without_oldest, with_waiting, posted, oldest_ask, lane_ticked, lane_taking, world_serving, stepped}
use Rattle.drive_script.proofs.Places.{oldest_in, each_younger}

pub length-posted : {Inner : Type 0} (lanes : List (LaneValue Inner)) (posts : List Post) → length (posted lanes posts) ≡ length lanes
length-posted lanes [] = refl
length-posted lanes (p ∷ posts) = length-posted (changed_at p.to (with_waiting p) lanes) posts ∙ length-changed (with_waiting p) p.to lanes

rising_younger : (asks : List Ask) → AreRising asks → AreRising (younger asks)
rising_younger [] h = tt
rising_younger (x ∷ asks) h = h.1

pub next_of : {Inner Chan : Type 0} (rules : Rules Inner Chan) (place : ℕ) (posts : List Post) → Each (IsPostTo rules place) posts → IsNextTo rules place posts
next_of rules place [] h = tt
next_of rules place (p ∷ posts) h = h.0

module _ {Inner Chan : Type 0} (rules : Rules Inner Chan) (owns : Owns Inner Chan) (laws : Laws rules owns) where
  tick_asks_of : (t c : ℕ) (core : CoreValue Inner) → t ≤ TOP → IsCoreOf rules owns c core → Each (IsAskOf rules c) (tick_of rules t core).1
  tick_asks_of t c core low is =
      let asks = (tick_of rules t core).1 in
      each_weaker (λ x both. record { proper = both.0; core = both.1.core }) asks
      (each_both (IsProperAsk rules) (IsAskAt t c 0) asks (recursion_from_All (IsProperAsk rules) asks (laws.ticks t c core low is).proper) (tick_asks rules owns laws t c core low is))

  pub lane_open_ticked : (end c : ℕ) (lane : LaneValue Inner) → end ≤ TOP → IsLaneOf rules owns end c lane → IsLaneOf rules owns end c (lane_ticked rules end lane)
  lane_open_ticked end c lane top is =
      let now = tick_of rules lane.clock lane.core in
      elim (nat_lt lane.clock end) as (λ b. nat_lt lane.clock end ≡ b → IsLaneOf rules owns end c (cond b (record lane { core = now.0; clock = lane.clock + 1; asks = lane.asks ++ now.1 }) lane)) [
        | true ↦ λ e.
            let below = ltb-true lane.clock end e in
            record {
              core = ticked_core rules owns laws lane.clock c lane.core (omega arith) is.core;
              asks = each_append (IsAskOf rules c) lane.asks now.1 is.asks (tick_asks_of lane.clock c lane.core (omega arith) is.core);
              rising =
                  pairwise_append (λ x y. IsAbove y x) lane.asks now.1 is.rising
                  (ids_rise lane.clock c 0 now.1 (laws.ticks lane.clock c lane.core (omega arith) is.core).ids)
                  (each_weaker (λ x old. each_weaker (λ y at. let cycle = at.cycle in later_above (id_of y) (id_of x) (omega arith)) now.1
                  (tick_asks rules owns laws lane.clock c lane.core (omega arith) is.core)) lane.asks is.earlier);
              earlier =
                  each_append (λ ask. (id_of ask).cycle < lane.clock + 1) lane.asks now.1
                  (each_weaker (λ x old. omega arith) lane.asks is.earlier)
                  (each_weaker (λ y at. let cycle = at.cycle in omega arith) now.1 (tick_asks rules owns laws lane.clock c lane.core (omega arith) is.core));
              posts = is.posts;
              clock = omega arith;
            }
        | false ↦ λ _. is
      ] refl

  pub lane_open_taking : (end c : ℕ) (posts : List Post) (lane : LaneValue Inner) → Each (IsPostTo rules c) posts → IsLaneOf rules owns end c lane → IsLaneOf rules owns end c (lane_taking rules posts lane)
  lane_open_taking end c [] lane own is = is
  lane_open_taking end c (p ∷ posts) lane own is = record {
    core = record { own = is.core.own; number = is.core.number; inbox = all_with_post (IsPostTo rules c) lane.core.inbox p is.core.inbox own.0 };
    asks = is.asks;
    rising = is.rising;
    earlier = is.earlier;
    posts = own.1;
    clock = is.clock;
  }

  lane_open_without : (end c : ℕ) (lane : LaneValue Inner) → IsLaneOf rules owns end c lane → IsLaneOf rules owns end c (without_oldest lane)
  lane_open_without end c lane is = record {
    core = is.core;
    asks = each_younger (IsAskOf rules c) lane.asks is.asks;
    rising = rising_younger lane.asks is.rising;
    earlier = each_younger (λ ask. (id_of ask).cycle < lane.clock) lane.asks is.earlier;
    posts = is.posts;
    clock = is.clock;
  }

  posted_open : (end : ℕ) (lanes : List (LaneValue Inner)) (posts : List Post) → Each (IsProperPost rules) posts → AllNumbered (IsLaneOf rules owns end) 0 lanes → AllNumbered (IsLaneOf rules owns end) 0 (posted lanes posts)
  posted_open end lanes [] proper are = are
  posted_open end lanes (p ∷ posts) proper are =
      posted_open end (changed_at p.to (with_waiting p) lanes) posts proper.1
      (numbered_changed (with_waiting p) (IsLaneOf rules owns end) 0 p.to lanes
      (λ c lane e is. record {
        core = is.core;
        asks = is.asks;
        rising = is.rising;
        earlier = is.earlier;
        posts = each_append (IsPostTo rules c) lane.posts (p ∷ []) is.posts (record { proper = proper.0; to = let at : p.to ≡ c = omega arith in at }, tt);
        clock = is.clock;
      }) are)

  -- the oldest ask of a core is its own
  pub oldest_of : (end c : ℕ) (lanes : List (LaneValue Inner)) (x : Ask) → AllNumbered (IsLaneOf rules owns end) 0 lanes → oldest_ask lanes c ≡ Some x → IsAskOf rules c x
  oldest_of end c lanes x are =
      numbered_seen (λ lane. oldest lane.asks) None (λ o. o ≡ Some x → IsAskOf rules c x) (IsLaneOf rules owns end) 0 c lanes (λ e. absurd (none-some x e))
      (λ k lane at is e. subst (λ n. IsAskOf rules n x) (let same : k ≡ c = omega arith in same) (oldest_in (IsAskOf rules k) lane.asks x is.asks e)) are

  pub posts_of_ask : (w : WorldValue Inner Chan) (x : Ask) → IsOpen rules owns w → IsProperAsk rules x → Each (IsProperPost rules) (through rules w.chans (x ∷ [])).posts
  posts_of_ask w x is proper = through_posts rules owns laws (λ _. Unit {0}) (IsProperPost rules) (λ y p _ of. of.proper) w.chans (x ∷ []) is.chans (proper, tt) (tt, tt)

  open_serving : (c : ℕ) (o : Option Ask) (w : WorldValue Inner Chan) → oldest_ask w.lanes c ≡ o → IsOpen rules owns w → IsOpen rules owns (world_serving rules c o w)
  open_serving c None w e is = is
  open_serving c (Some x) w e is =
      let own = oldest_of w.end c w.lanes x is.lanes e in
      let left = changed_at c (λ lane. without_oldest lane) w.lanes in
      record {
        end = is.end;
        count = length-posted left (through rules w.chans (x ∷ [])).posts ∙ length-changed (λ lane. without_oldest lane) c w.lanes ∙ is.count;
        lanes =
            posted_open w.end left (through rules w.chans (x ∷ [])).posts (posts_of_ask w x is own.proper)
            (numbered_changed (λ lane. without_oldest lane) (IsLaneOf rules owns w.end) 0 c w.lanes (λ k lane _ h. lane_open_without w.end k lane h) is.lanes);
        chan_count = length-through rules w.chans (x ∷ []) ∙ is.chan_count;
        chans = through_are rules owns laws w.chans (x ∷ []) is.chans (own.proper, tt);
      }

  pub open_stepped : (x : Step) (w : WorldValue Inner Chan) → IsOpen rules owns w → IsOpen rules owns (stepped rules x w)
  unfolding stepped
  open_stepped (Tick c) w is = record {
    end = is.end;
    count = length-changed (lane_ticked rules w.end) c w.lanes ∙ is.count;
    lanes = numbered_changed (lane_ticked rules w.end) (IsLaneOf rules owns w.end) 0 c w.lanes (λ k lane _ h. lane_open_ticked w.end k lane is.end h) is.lanes;
    chan_count = is.chan_count;
    chans = is.chans;
  }
  open_stepped (Serve c) w is = open_serving c (oldest_ask w.lanes c) w refl is
  open_stepped (Take c) w is = record {
    end = is.end;
    count = length-changed (λ lane. lane_taking rules lane.posts lane) c w.lanes ∙ is.count;
    lanes = numbered_changed (λ lane. lane_taking rules lane.posts lane) (IsLaneOf rules owns w.end) 0 c w.lanes (λ k lane _ h. lane_open_taking w.end k lane.posts lane h.posts h) is.lanes;
    chan_count = is.chan_count;
    chans = is.chans;
  }

  -- before the first step
  pub open_opened : (s : StateValue Inner Chan) (k : ℕ) → IsProper rules owns s → s.clock + k ≤ TOP → IsOpen rules owns (opened s k)
  open_opened s k is top = record {
    end = top;
    count = length-map s.cores (begun s.clock) ∙ is.core_count;
    lanes =
        numbered_map (IsLaneOf rules owns (s.clock + k)) (begun s.clock) 0 s.cores
        (numbered_weaker (λ c core h. record { core = h; asks = tt; rising = tt; earlier = tt; posts = tt; clock = omega arith }) 0 s.cores is.cores);
    chan_count = is.chan_count;
    chans = is.chans;
  }

  -- the posts of an ask go to cores of the machine
  pub posts_inside : (w : WorldValue Inner Chan) (x : Ask) → IsOpen rules owns w → IsProperAsk rules x → (n : ℕ) → n ≡ rules.cores
      → (posts : List Post) → posts ≡ (through rules w.chans (x ∷ [])).posts → All (λ p. p.to < n) posts
  posts_inside w x is proper n count posts e =
      let sent = (through rules w.chans (x ∷ [])).posts in
      subst (All (λ p. p.to < n)) (sym e)
      (All-from_recursion (λ p. p.to < n) sent (each_weaker (λ p own. let low = laws.posts p own in omega arith) sent (posts_of_ask w x is proper)))
