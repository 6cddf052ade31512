-- What is gathered is a world that is under way.
use Rattle.std.proofs.Common.{◌≡◌, ◌∙◌, ℕ, ◌+◌, ◌<◌, ◌≤◌, List, ◌++◌, All, Option, Some, None, map, length, slice_get, refl, sym, ap, subst, arith}
use Rattle.std.specs.List.{AllByRecursion as Each}
use Rattle.std.proofs.lemmas.List.{length-map}
use Rattle.std.proofs.lemmas.List.Elements.{recursion_from_All}
use Rattle.std.proofs.lemmas.Option.{same_Some, slice_get_within}
use Rattle.slack_base.specs.declared.bounds.TheConstants.{TOP}
use Rattle.slack_base.specs.declared.histories.Taken.{Taken}
use Rattle.slack_base.specs.declared.messages.Ask.{Ask}
use Rattle.slack_base.specs.declared.messages.Post.{Post}
use Rattle.slack_base.specs.declared.stamps.Id.{Id}
use Rattle.slack_base.specs.declared.steps.Step.{Step}
use Rattle.slack_base.specs.declared.steps.Step.TheVariants.{Tick, Serve, Take}
use Rattle.slack_base.specs.Inboxes.{CoreValue}
use Rattle.slack_base.specs.Messages.{id_of}
use Rattle.stamp_queue.specs.Rings.{all_sent}
use Rattle.target_law.specs.Alone.{Alone}
use Rattle.target_law.specs.Cycles.{StateValue, through}
use Rattle.target_law.specs.Drifts.{asks_by, posts_to}
use Rattle.target_law.specs.Numbered.{AllNumbered}
use Rattle.target_law.specs.Proper.{IsCoreOf, IsPostTo}
use Rattle.target_law.specs.Rules.{Rules, Owns}
use Rattle.target_law.specs.Served.{AreRising, IsAbove}
use Rattle.target_law.specs.Values.{Values}
use Rattle.drive_script.specs.declared.lanes.Lane.{Lane}
use Rattle.drive_script.specs.Finishing.{Finishes, done, goes}
use Rattle.drive_script.specs.Open.{IsAskOf, IsLaneOf, IsOpen}
use Rattle.drive_script.specs.Views.{lane_of}
use Rattle.drive_script.specs.Worlds.{LaneValue, WorldValue, oldest_ask, stepped, world_serving}
use Rattle.drive_script.proofs.Served.{world_path}
use Rattle.drive_script.proofs.Underway.{IsLaneUnderway, IsUnderway}
use Rattle.manager.specs.declared.managers.Desk.{Desk}
use Rattle.manager.specs.declared.managers.Manager.{Manager}
use Rattle.manager.specs.Managers.{IsReadyDesk, IsReadyManager}
use Rattle.settle.specs.Gathers.{Gathered, AreGathered}
use Rattle.settle.specs.Parts.{IsReadyPart, IsPartUnderway, AreUnderway}
use Rattle.settle.specs.Settles.{gathered_world, FinishesFrom}
use Rattle.settle.specs.declared.parts.Part.{Part}
use Rattle.settle.proofs.Lists.{get_in, get_map, each_last, pairwise_last, numbered_at, numbered_of, along_of}

-- the item at a place of a list of others is one of them
seen_in : {X Y : Type 0} (f : X → Y) (xs : List X) (i : ℕ) (y : Y) → slice_get (map f xs) i ≡ Some y → (x : X) × (slice_get xs i ≡ Some x) × (f x ≡ y)
seen_in f xs i y at =
    let inside : i < length (map f xs) = slice_get_within (map f xs) i y at in
    let x = get_in xs i (subst (λ n. i < n) (length-map xs f) inside) in
    (x.0, x.1, same_Some (f x.0) y (sym (get_map f xs i x.0 x.1) ∙ at))

module _ {Inner Chan : Type 0} (rules : Rules Inner Chan) (owns : Owns Inner Chan) {Core D : Type 0} (values : Values Core D Inner Chan) where
  module _ (served : List Ask) (c : ℕ) (desk : Desk) (part : Part Core) (lane : Lane Core) (end : ℕ) (ready : IsReadyDesk rules served c desk) (own : IsReadyPart rules owns values end c part) (is : Gathered desk part lane) where
    all_asks : all_sent part.asks ≡ asks_by c served ++ lane.asks.items
    all_asks = is.asks (asks_by c served) ready.received

    all_posts : all_sent desk.posts ≡ map (λ x. x.post) part.taken ++ lane.posts.items
    all_posts = is.posts (map (λ (x : Taken). x.post) part.taken) own.received

    -- its lane is one of the machine
    open_lane : IsLaneOf rules owns end c (lane_of values lane)
    open_lane = record {
      core = subst (λ core. IsCoreOf rules owns c (values.core core)) (sym is.core) own.own;
      asks = each_last (IsAskOf rules c) (asks_by c served) lane.asks.items (subst (Each (IsAskOf rules c)) all_asks own.sent);
      rising = pairwise_last (λ x y. IsAbove y x) (asks_by c served) lane.asks.items (subst (λ xs. AreRising xs) all_asks own.rising);
      earlier =
          subst (λ n. Each (λ ask. (id_of ask).cycle < n) lane.asks.items) (sym is.clock)
          (each_last (λ ask. (id_of ask).cycle < part.clock) (asks_by c served) lane.asks.items (subst (Each (λ ask. (id_of ask).cycle < part.clock)) all_asks own.earlier));
      posts =
          each_last (IsPostTo rules c) (map (λ (x : Taken). x.post) part.taken) lane.posts.items
          (recursion_from_All (IsPostTo rules c) (map (λ (x : Taken). x.post) part.taken ++ lane.posts.items) (subst (All (IsPostTo rules c)) all_posts ready.sent));
      clock = subst (λ n. n ≤ end) (sym is.clock) own.below;
    }

    -- it is under way
    lane_underway : (a : ℕ) (sent : List Post) (first : CoreValue Inner) → IsPartUnderway rules values a c first part → all_sent desk.posts ≡ posts_to c sent
        → IsLaneUnderway rules a served sent c first (lane_of values lane)
    lane_underway a sent first went posts = record {
      count = went.count;
      at = is.clock ∙ went.at;
      alone =
          subst (Alone rules first a went.count lane.taken (values.core lane.core)) all_asks
          (subst (λ core. Alone rules first a went.count lane.taken (values.core core) (all_sent part.asks)) (sym is.core)
          (subst (λ taken. Alone rules first a went.count taken (values.core part.core) (all_sent part.asks)) (sym is.taken) went.alone));
      received = ap (λ taken. map (λ (x : Taken). x.post) taken ++ lane.posts.items) is.taken ∙ sym all_posts ∙ posts;
    }

  module _ (m : Manager D) (parts : List (Part Core)) (lanes : List (Lane Core)) (end : ℕ) (ready : IsReadyManager rules owns values m) (own : AllNumbered (IsReadyPart rules owns values end) 0 parts)
      (count : length parts ≡ length m.desks.items) (is : AreGathered m.desks.items parts lanes) where
    abbrev pub world : WorldValue Inner Chan
    world = gathered_world values end m lanes

    -- of whom a lane is
    record IsAt (i : ℕ) (lane : Lane Core) : Type 0 where
      desk : Desk
      part : Part Core
      desk_at : slice_get m.desks.items i ≡ Some desk
      part_at : slice_get parts i ≡ Some part
      gathered : Gathered desk part lane

    at_lane : (i : ℕ) (lane : Lane Core) → slice_get lanes i ≡ Some lane → IsAt i lane
    at_lane i lane at =
        let within = slice_get_within lanes i lane at in
        let whole = is.count in
        let part = get_in parts i (omega (arith, within, whole)) in
        let desk = get_in m.desks.items i (omega (arith, within, whole, count)) in
        record { desk = desk.0; part = part.0; desk_at = desk.1; part_at = part.1; gathered = is.at i desk.0 part.0 lane desk.1 part.1 at }

    ready_lane : (i : ℕ) (lane : LaneValue Inner) → slice_get (map (lane_of values) lanes) i ≡ Some lane → IsLaneOf rules owns end i lane
    ready_lane i lane at =
        let l = seen_in (lane_of values) lanes i lane at in
        let here = at_lane i l.0 l.1 in
        subst (IsLaneOf rules owns end i) l.2
        (open_lane m.served i here.desk here.part l.0 end (ready.desks.at i here.desk here.desk_at) (numbered_at (IsReadyPart rules owns values end) parts i here.part own here.part_at) here.gathered)

    pub world_open : end ≤ TOP → IsOpen rules owns world
    world_open top = record {
      end = top;
      count = length-map lanes (lane_of values) ∙ is.count ∙ count ∙ ready.desk_count;
      lanes = numbered_of (IsLaneOf rules owns end) 0 (map (lane_of values) lanes) (λ i lane at. let same : 0 + i ≡ i = omega arith in subst (λ n. IsLaneOf rules owns end n lane) (sym same) (ready_lane i lane at));
      chan_count = length-map m.chans.items values.chan ∙ ready.chan_count;
      chans = ready.chans;
    }

    module _ (s : StateValue Inner Chan) (went : AreUnderway rules values s m parts) where
      underway_at : (i : ℕ) (first : CoreValue Inner) (lane : LaneValue Inner) → slice_get s.cores i ≡ Some first → slice_get (map (lane_of values) lanes) i ≡ Some lane
          → IsLaneUnderway rules s.clock m.served (through rules s.chans m.served).posts i first lane
      underway_at i first lane first_at at =
          let l = seen_in (lane_of values) lanes i lane at in
          let here = at_lane i l.0 l.1 in
          subst (IsLaneUnderway rules s.clock m.served (through rules s.chans m.served).posts i first) l.2
          (lane_underway m.served i here.desk here.part l.0 end (ready.desks.at i here.desk here.desk_at) (numbered_at (IsReadyPart rules owns values end) parts i here.part own here.part_at) here.gathered
          s.clock (through rules s.chans m.served).posts first (went.cores.at i first here.part first_at here.part_at) (went.manager.desks.at i here.desk here.desk_at))

      pub world_underway : IsUnderway rules s world
      world_underway = record {
        proper = ready.served;
        chans = went.manager.chans;
        clashes = went.manager.clashes;
        lanes =
            along_of (IsLaneUnderway rules s.clock m.served (through rules s.chans m.served).posts) 0 s.cores (map (lane_of values) lanes)
            (length-map lanes (lane_of values) ∙ is.count ∙ went.cores.count)
            (λ i first lane first_at at. let same : 0 + i ≡ i = omega arith in subst (λ n. IsLaneUnderway rules s.clock m.served (through rules s.chans m.served).posts n first lane) (sym same) (underway_at i first lane first_at at));
      }

  -- the same, as it is stored
  module _ (m : Manager D) (parts : List (Part Core)) (lanes : List (Lane Core)) (end : ℕ) (ready : IsReadyManager rules owns values m) (own : AllNumbered (IsReadyPart rules owns values end) 0 parts) (count : length parts ≡ length m.desks.items)
      (chans : List D) (desks : List Desk) (served : List Ask) (clashes : List (Option Id)) (chans_are : chans ≡ m.chans.items) (desks_are : desks ≡ m.desks.items) (served_are : served ≡ m.served) (clashes_are : clashes ≡ m.clashes)
      (is : AreGathered desks parts lanes) where
    abbrev pub stored_world : WorldValue Inner Chan
    stored_world = record { end = end; lanes = map (lane_of values) lanes; chans = map values.chan chans; served = served; clashes = clashes }

    gathered : AreGathered m.desks.items parts lanes
    gathered = subst (λ ds. AreGathered ds parts lanes) desks_are is

    same_world : stored_world ≡ world m parts lanes end ready own count gathered
    same_world = world_path end refl (ap (map values.chan) chans_are) served_are clashes_are

    pub stored_open : end ≤ TOP → IsOpen rules owns stored_world
    stored_open top = subst (IsOpen rules owns) (sym same_world) (world_open m parts lanes end ready own count gathered top)

    pub stored_finishes : (e : WorldValue Inner Chan) → Finishes rules stored_world e → FinishesFrom rules values end m parts e
    stored_finishes e f = record { lanes = lanes; gathered = gathered; finishes = subst (λ w. Finishes rules w e) same_world f }

    pub stored_underway : (s : StateValue Inner Chan) → AreUnderway rules values s m parts → IsUnderway rules s stored_world
    stored_underway s went = subst (IsUnderway rules s) (sym same_world) (world_underway m parts lanes end ready own count gathered s went)

-- finishing keeps the end clock
module _ {Inner Chan : Type 0} (rules : Rules Inner Chan) where
  end_serving : (c : ℕ) (o : Option Ask) (w : WorldValue Inner Chan) → (world_serving rules c o w).end ≡ w.end
  end_serving c None w = refl
  end_serving c (Some x) w = refl

  end_stepped : (x : Step) (w : WorldValue Inner Chan) → (stepped rules x w).end ≡ w.end
  unfolding stepped
  end_stepped (Tick c) w = refl
  end_stepped (Serve c) w = end_serving c (oldest_ask w.lanes c) w
  end_stepped (Take c) w = refl

  pub finishes_end : {w e : WorldValue Inner Chan} → Finishes rules w e → e.end ≡ w.end
  finishes_end (done fin) = refl
  finishes_end (goes {w = w} x next rest) = finishes_end rest ∙ end_stepped x w
