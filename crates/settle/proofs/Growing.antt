-- Finishing only adds to a history.
use Rattle.std.proofs.Common.{◌≡◌, ◌∙◌, ℕ, ◌+◌, ◌≤◌, List, [], ◌∷◌, ◌++◌, Option, Some, None, length, map, slice_get, take, true, false, cond, nat_lt, refl, sym, ap, subst, arith, append_assoc, append-nil}
use Rattle.std.proofs.lemmas.List.{length-append, length-map}
use Rattle.std.proofs.lemmas.Option.{slice_get_within}
use Rattle.slack_base.specs.declared.histories.Taken.{Taken}
use Rattle.slack_base.specs.declared.messages.Ask.{Ask}
use Rattle.slack_base.specs.declared.messages.Post.{Post}
use Rattle.slack_base.specs.declared.stamps.Id.{Id}
use Rattle.slack_base.specs.declared.steps.Step.{Step}
use Rattle.slack_base.specs.declared.steps.Step.TheVariants.{Tick, Serve, Take}
use Rattle.target_law.specs.Cycles.{changed_at, through, tick_of}
use Rattle.target_law.specs.Rules.{Rules}
use Rattle.violation_watch.specs.Watching.{SawServed, begins, serves}
use Rattle.violation_watch.specs.declared.watches.Watch.{Watch}
use Rattle.drive_script.specs.Finishing.{Finishes, done, goes}
use Rattle.drive_script.specs.Worlds.{LaneValue, WorldValue, without_oldest, with_waiting, posted, oldest_ask, lane_ticked, lane_taking, world_serving, stepped}
use Rattle.drive_script.specs.declared.lanes.Lane.{Lane}
use Rattle.drive_script.specs.Views.{lane_of}
use Rattle.drive_script.proofs.Places.{Along, along_changed}
use Rattle.manager.specs.declared.managers.Desk.{Desk}
use Rattle.target_law.specs.Values.{Values}
use Rattle.settle.specs.Gathers.{AreGathered}
use Rattle.settle.specs.Settles.{HaveTakenMore}
use Rattle.settle.specs.declared.parts.Part.{Part}
use Rattle.settle.proofs.Lists.{get_in, get_map, along_count, along_at}

-- the list is one that grew
abbrev pub Grew : {X : Type 0} → List X → List X → Type 0
Grew {X} old new = (more : List X) × (new ≡ old ++ more)

grew_same : {X : Type 0} (xs : List X) → Grew xs xs
grew_same xs = ([], sym (append-nil xs))

grew_then : {X : Type 0} (xs ys more : List X) → Grew xs ys → Grew xs (ys ++ more)
grew_then xs ys more h = (h.0 ++ more, ap (λ l. l ++ more) h.1 ∙ append_assoc xs h.0 more)

pub take_first : {X : Type 0} (xs ys : List X) → take (length xs) (xs ++ ys) ≡ xs
take_first [] [] = refl
take_first [] (y ∷ ys) = refl
take_first (x ∷ xs) ys = ap (λ l. x ∷ l) (take_first xs ys)

module _ {Inner : Type 0} where
  -- a core took what it took, and then maybe more
  abbrev pub TookMore : ℕ → LaneValue Inner → LaneValue Inner → Type 0
  TookMore c first lane = Grew first.taken lane.taken

  took_same : (n : ℕ) (lanes : List (LaneValue Inner)) → Along TookMore n lanes lanes
  took_same n [] = tt
  took_same n (lane ∷ lanes) = (grew_same lane.taken, took_same (n + 1) lanes)

  took_posted : (firsts lanes : List (LaneValue Inner)) (posts : List Post) → Along TookMore 0 firsts lanes → Along TookMore 0 firsts (posted lanes posts)
  took_posted firsts lanes [] h = h
  took_posted firsts lanes (p ∷ posts) h =
      took_posted firsts (changed_at p.to (with_waiting p) lanes) posts
      (along_changed TookMore TookMore (with_waiting p) (λ lane. lane.clock) 0 0 p.to firsts lanes (λ c first lane e _ is. is) (λ c first lane e is. is) h)

module _ {Inner Chan : Type 0} (rules : Rules Inner Chan) where
  took_ticked : (end c : ℕ) (first lane : LaneValue Inner) → TookMore c first lane → TookMore c first (lane_ticked rules end lane)
  took_ticked end c first lane is =
      let now = tick_of rules lane.clock lane.core in
      elim (nat_lt lane.clock end) as (λ b. Grew first.taken (cond b (record lane { core = now.0; clock = lane.clock + 1; asks = lane.asks ++ now.1 }) lane).taken) [ true ↦ is | false ↦ is ]

  took_taking : (c : ℕ) (posts : List Post) (first lane : LaneValue Inner) → TookMore c first lane → TookMore c first (lane_taking rules posts lane)
  took_taking c [] first lane is = is
  took_taking c (p ∷ posts) first lane is = grew_then first.taken lane.taken _ is

  -- a world that an earlier one has come to
  pub record HasGrown (w e : WorldValue Inner Chan) : Type 0 where
    pub served : Grew w.served e.served
    pub clashes : Grew w.clashes e.clashes
    pub lanes : Along TookMore 0 w.lanes e.lanes
    pub even : length w.clashes ≡ length w.served → length e.clashes ≡ length e.served

  pub grown_same : (w : WorldValue Inner Chan) → HasGrown w w
  grown_same w = record { served = grew_same w.served; clashes = grew_same w.clashes; lanes = took_same 0 w.lanes; even = λ e. e }

  grown_serving : (first : WorldValue Inner Chan) (c : ℕ) (o : Option Ask) (w : WorldValue Inner Chan) → HasGrown first w → HasGrown first (world_serving rules c o w)
  grown_serving first c None w h = h
  grown_serving first c (Some x) w h = record {
    served = grew_then first.served w.served (x ∷ []) h.served;
    clashes = grew_then first.clashes w.clashes (through rules w.chans (x ∷ [])).clashes h.clashes;
    lanes =
        took_posted first.lanes (changed_at c (λ lane. without_oldest lane) w.lanes) (through rules w.chans (x ∷ [])).posts
        (along_changed TookMore TookMore (λ lane. without_oldest lane) (λ lane. lane.clock) 0 0 c first.lanes w.lanes (λ c first lane e _ is. is) (λ c first lane e is. is) h.lanes);
    even = λ e.
        let before = h.even e in
        let one : length (w.served ++ x ∷ []) ≡ length w.served + 1 = length-append w.served (x ∷ []) in
        let other : length (w.clashes ++ (through rules w.chans (x ∷ [])).clashes) ≡ length w.clashes + 1 = length-append w.clashes (through rules w.chans (x ∷ [])).clashes in
        omega (arith, before, one, other);
  }

  grown_stepped : (first : WorldValue Inner Chan) (x : Step) (w : WorldValue Inner Chan) → HasGrown first w → HasGrown first (stepped rules x w)
  unfolding stepped
  grown_stepped first (Tick c) w h = record {
    served = h.served;
    clashes = h.clashes;
    lanes =
        along_changed TookMore TookMore (lane_ticked rules w.end) (λ lane. lane.clock) 0 0 c first.lanes w.lanes (λ c first lane e _ is. took_ticked w.end c first lane is) (λ c first lane e is. is) h.lanes;
    even = h.even;
  }
  grown_stepped first (Serve c) w h = grown_serving first c (oldest_ask w.lanes c) w h
  grown_stepped first (Take c) w h = record {
    served = h.served;
    clashes = h.clashes;
    lanes =
        along_changed TookMore TookMore (λ lane. lane_taking rules lane.posts lane) (λ lane. lane.clock) 0 0 c first.lanes w.lanes (λ c first lane e _ is. took_taking c lane.posts first lane is) (λ c first lane e is. is) h.lanes;
    even = h.even;
  }

  pub finishing_grows : {w e : WorldValue Inner Chan} (first : WorldValue Inner Chan) → Finishes rules w e → HasGrown first w → HasGrown first e
  finishing_grows first (done fin) h = h
  finishing_grows first (goes {w = w} x next rest) h = finishing_grows first rest (grown_stepped first x w h)

  -- a watch saw a clash for each ask
  saw_even : {clashes : List (Option Id)} {asks : List Ask} {watch : Watch} → SawServed rules clashes asks watch → length clashes ≡ length asks
  saw_even (begins new) = refl
  saw_even (serves {clashes = clashes} {asks = asks} {clash = clash} {ask = ask} saw has) =
      let before = saw_even saw in
      let one : length (clashes ++ clash ∷ []) ≡ length clashes + 1 = length-append clashes (clash ∷ []) in
      let other : length (asks ++ ask ∷ []) ≡ length asks + 1 = length-append asks (ask ∷ []) in
      omega (arith, before, one, other)

  -- what was taken out of a manager saw what it saw
  pub raw_saw : (clashes : List (Option Id)) (served : List Ask) (watch : Watch) (served2 : List Ask) (clashes2 : List (Option Id)) (watch2 : Watch) → SawServed rules clashes served watch
      → served2 ≡ served → clashes2 ≡ clashes → watch2 ≡ watch → SawServed rules clashes2 served2 watch2
  raw_saw clashes served watch served2 clashes2 watch2 saw e f h =
      subst (λ hs. SawServed rules hs served2 watch2) (sym f) (subst (λ xs. SawServed rules clashes xs watch2) (sym e) (subst (SawServed rules clashes served) (sym h) saw))

  -- the manager's watch, which saw the asks before, may see those that finishing added
  module _ (served : List Ask) (clashes : List (Option Id)) (watch : Watch) (saw : SawServed rules clashes served watch) (w e : WorldValue Inner Chan) (served_are : w.served ≡ served) (clashes_are : w.clashes ≡ clashes) (finishes : Finishes rules w e) where
    grown : HasGrown w e
    grown = finishing_grows w finishes (grown_same w)

    pub all_even : length e.clashes ≡ length e.served
    all_even = grown.even (ap length clashes_are ∙ saw_even saw ∙ ap length (sym served_are))

    whole_served : e.served ≡ served ++ grown.served.0
    whole_served = grown.served.1 ∙ ap (λ l. l ++ grown.served.0) served_are

    whole_clashes : e.clashes ≡ clashes ++ grown.clashes.0
    whole_clashes = grown.clashes.1 ∙ ap (λ l. l ++ grown.clashes.0) clashes_are

    pub first_within : length served ≤ length e.served
    first_within = let whole : length e.served ≡ length served + length grown.served.0 = ap length whole_served ∙ length-append served grown.served.0 in omega (arith, whole)

    pub first_saw : (from : ℕ) → from ≡ length served → SawServed rules (take from e.clashes) (take from e.served) watch
    first_saw from is =
        let asks_first : take from e.served ≡ served = ap (λ n. take n e.served) is ∙ ap (take (length served)) whole_served ∙ take_first served grown.served.0 in
        let clashes_first : take from e.clashes ≡ clashes = ap (λ n. take n e.clashes) (is ∙ sym (saw_even saw)) ∙ ap (take (length clashes)) whole_clashes ∙ take_first clashes grown.clashes.0 in
        subst (λ xs. SawServed rules (take from e.clashes) xs watch) (sym asks_first) (subst (λ hs. SawServed rules hs served watch) (sym clashes_first) saw)

-- each core has taken what its part took, and then maybe more
module _ {Inner Chan : Type 0} (rules : Rules Inner Chan) {Core D : Type 0} (values : Values Core D Inner Chan) (desks : List Desk) (parts : List (Part Core)) (lanes lasts : List (Lane Core)) (w e : WorldValue Inner Chan)
    (count : length parts ≡ length desks) (is : AreGathered desks parts lanes) (w_lanes : w.lanes ≡ map (lane_of values) lanes) (e_lanes : e.lanes ≡ map (lane_of values) lasts) (finishes : Finishes rules w e) where
  along : Along TookMore 0 (map (lane_of values) lanes) (map (lane_of values) lasts)
  along = subst (Along TookMore 0 (map (lane_of values) lanes)) e_lanes (subst (λ ls. Along TookMore 0 ls e.lanes) w_lanes (finishing_grows rules w finishes (grown_same rules w)).lanes)

  last_count : length lasts ≡ length parts
  last_count = sym (length-map lasts (lane_of values)) ∙ along_count TookMore 0 (map (lane_of values) lanes) (map (lane_of values) lasts) along ∙ length-map lanes (lane_of values) ∙ is.count

  taken_at : (c : ℕ) (part : Part Core) (last : Lane Core) → slice_get parts c ≡ Some part → slice_get lasts c ≡ Some last → (more : List Taken) × (last.taken ≡ part.taken ++ more)
  taken_at c part last part_at last_at =
      let within = slice_get_within parts c part part_at in
      let whole = is.count in
      let lane = get_in lanes c (omega (arith, within, whole)) in
      let desk = get_in desks c (omega (arith, within, count)) in
      let more = along_at (λ (a b : LaneValue Inner). Grew a.taken b.taken) 0 c (map (lane_of values) lanes) (map (lane_of values) lasts) (lane_of values lane.0) (lane_of values last) along
      (get_map (lane_of values) lanes c lane.0 lane.1) (get_map (lane_of values) lasts c last last_at) in
      (more.0, more.1 ∙ ap (λ ts. ts ++ more.0) (is.at c desk.0 part lane.0 desk.1 part_at lane.1).taken)

  pub taken_more : HaveTakenMore parts lasts
  taken_more = record { count = last_count; at = taken_at }
