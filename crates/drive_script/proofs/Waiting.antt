-- What the steps of finishing change, and what they leave.
use Rattle.std.proofs.Common.{◌≡◌, ◌∙◌, ℕ, ◌+◌, ◌-◌, ◌<◌, zero, suc, List, [], ◌∷◌, ◌++◌, length, true, false, cond, nat_lt, Option, Some, None, refl, sym, ap, subst, arith}
use Rattle.std.proofs.lemmas.Bool.{ltb-true}
use Rattle.std.proofs.lemmas.Option.{none-some}
use Rattle.slack_base.specs.declared.messages.Ask.{Ask}
use Rattle.slack_base.specs.declared.messages.Post.{Post}
use Rattle.slack_base.specs.declared.stamps.Id.{Id}
use Rattle.slack_base.specs.declared.steps.Step.TheVariants.{Tick, Serve, Take}
use Rattle.target_law.specs.Cycles.{changed_at, seen_at, tick_of, through}
use Rattle.target_law.specs.Rules.{Rules}
use Rattle.drive_script.specs.Finishing.{NoKey, first_id, oldest_id, oldest_post, open_clock}
use Rattle.drive_script.specs.Loops.{total, ticks_left}
use Rattle.drive_script.specs.Worlds.{LaneValue, WorldValue, oldest, younger, without_oldest, with_waiting, posted, oldest_ask, lane_ticked, lane_taking, world_serving, stepped}

-- sums
module _ {X : Type 0} (f : X → ℕ) (u : X → X) where
  pub total_kept : ((x : X) → f (u x) ≡ f x) → (k : ℕ) (xs : List X) → total f (changed_at k u xs) ≡ total f xs
  total_kept same zero [] = refl
  total_kept same (suc k) [] = refl
  total_kept same zero (x ∷ xs) = ap (λ n. n + total f xs) (same x)
  total_kept same (suc k) (x ∷ xs) = ap (λ n. f x + n) (total_kept same k xs)

  pub total_less : {K : Type 0} (g : X → Option K) (key : K) → ((x : X) → g x ≡ Some key → f (u x) < f x) → (k : ℕ) (xs : List X) → seen_at k g None xs ≡ Some key
      → total f (changed_at k u xs) < total f xs
  total_less g key less zero [] e = absurd (none-some key e)
  total_less g key less (suc k) [] e = absurd (none-some key e)
  total_less g key less zero (x ∷ xs) e = let h = less x e in omega arith
  total_less g key less (suc k) (x ∷ xs) e = let h = total_less g key less k xs e in omega arith

-- what each item is seen as stays
pub seen_kept : {X Y : Type 0} (g : X → Y) (past : Y) (u : X → X) → ((x : X) → g (u x) ≡ g x) → (j k : ℕ) (xs : List X) → seen_at j g past (changed_at k u xs) ≡ seen_at j g past xs
seen_kept g past u same zero zero [] = refl
seen_kept g past u same (suc j) zero [] = refl
seen_kept g past u same zero (suc k) [] = refl
seen_kept g past u same (suc j) (suc k) [] = refl
seen_kept g past u same zero zero (x ∷ xs) = same x
seen_kept g past u same (suc j) zero (x ∷ xs) = refl
seen_kept g past u same zero (suc k) (x ∷ xs) = refl
seen_kept g past u same (suc j) (suc k) (x ∷ xs) = seen_kept g past u same j k xs

younger_less : (id : Id) (asks : List Ask) → first_id asks ≡ Some id → length (younger asks) < length asks
younger_less id [] e = absurd (none-some id e)
younger_less id (x ∷ asks) e = omega arith

none_here : (asks : List Ask) → oldest asks ≡ None → first_id asks ≡ None
none_here [] e = refl
none_here (x ∷ asks) e = absurd (none-some x (sym e))

module _ {Inner : Type 0} where
  total_posted : (f : LaneValue Inner → ℕ) → ((p : Post) (lane : LaneValue Inner) → f (with_waiting p lane) ≡ f lane) → (lanes : List (LaneValue Inner)) (posts : List Post) → total f (posted lanes posts) ≡ total f lanes
  total_posted f same lanes [] = refl
  total_posted f same lanes (p ∷ posts) = total_posted f same (changed_at p.to (with_waiting p) lanes) posts ∙ total_kept f (with_waiting p) (same p) p.to lanes

  -- where no ask waits, none has an id
  no_id : (c : ℕ) (lanes : List (LaneValue Inner)) → oldest_ask lanes c ≡ None → oldest_id lanes c ≡ None
  no_id zero [] e = refl
  no_id (suc c) [] e = refl
  no_id zero (lane ∷ lanes) e = none_here lane.asks e
  no_id (suc c) (lane ∷ lanes) e = no_id c lanes e

  abbrev pub asks_waiting : List (LaneValue Inner) → ℕ
  asks_waiting lanes = total (λ lane. length lane.asks) lanes

  abbrev pub posts_waiting : List (LaneValue Inner) → ℕ
  posts_waiting lanes = total (λ lane. length lane.posts) lanes

module _ {Inner Chan : Type 0} (rules : Rules Inner Chan) where
  -- serving
  serving_less : (c : ℕ) (id : Id) (o : Option Ask) (w : WorldValue Inner Chan) → oldest_ask w.lanes c ≡ o → oldest_id w.lanes c ≡ Some id
      → asks_waiting (world_serving rules c o w).lanes < asks_waiting w.lanes
  serving_less c id None w none e = absurd (none-some id (sym (no_id c w.lanes none) ∙ e))
  serving_less c id (Some x) w some e =
      let f : LaneValue Inner → ℕ = λ lane. length lane.asks in
      let left = changed_at c (λ lane. without_oldest lane) w.lanes in
      let same = total_posted f (λ p lane. refl) left (through rules w.chans (x ∷ [])).posts in
      let less = total_less f (λ lane. without_oldest lane) (λ lane. first_id lane.asks) id (λ lane h. younger_less id lane.asks h) c w.lanes e in
      subst (λ n. n < total f w.lanes) (sym same) less

  pub serve_less : (c : ℕ) (id : Id) (w : WorldValue Inner Chan) → oldest_id w.lanes c ≡ Some id → asks_waiting (stepped rules (Serve c) w).lanes < asks_waiting w.lanes
  unfolding stepped
  serve_less c id w e = serving_less c id (oldest_ask w.lanes c) w refl e

  serving_left : (c : ℕ) (o : Option Ask) (w : WorldValue Inner Chan) → ticks_left (world_serving rules c o w) ≡ ticks_left w
  serving_left c None w = refl
  serving_left c (Some x) w =
      let f : LaneValue Inner → ℕ = λ lane. w.end - lane.clock in
      total_posted f (λ p lane. refl) (changed_at c (λ lane. without_oldest lane) w.lanes) (through rules w.chans (x ∷ [])).posts
      ∙ total_kept f (λ lane. without_oldest lane) (λ lane. refl) c w.lanes

  pub serve_left : (c : ℕ) (w : WorldValue Inner Chan) → ticks_left (stepped rules (Serve c) w) ≡ ticks_left w
  unfolding stepped
  serve_left c w = serving_left c (oldest_ask w.lanes c) w

  -- taking
  taking_clock : (posts : List Post) (lane : LaneValue Inner) → (lane_taking rules posts lane).clock ≡ lane.clock
  taking_clock [] lane = refl
  taking_clock (p ∷ posts) lane = refl

  taking_asks : (posts : List Post) (lane : LaneValue Inner) → (lane_taking rules posts lane).asks ≡ lane.asks
  taking_asks [] lane = refl
  taking_asks (p ∷ posts) lane = refl

  taking_less : (p : Post) (posts : List Post) (lane : LaneValue Inner) → oldest posts ≡ Some p → length (lane_taking rules posts lane).posts < length posts
  taking_less p [] lane e = absurd (none-some p e)
  taking_less p (q ∷ posts) lane e = omega arith

  pub take_less : (c : ℕ) (p : Post) (w : WorldValue Inner Chan) → oldest_post w.lanes c ≡ Some p → posts_waiting (stepped rules (Take c) w).lanes < posts_waiting w.lanes
  unfolding stepped
  take_less c p w e = total_less (λ lane. length lane.posts) (λ lane. lane_taking rules lane.posts lane) (λ lane. oldest lane.posts) p (λ lane h. taking_less p lane.posts lane h) c w.lanes e

  pub take_left : (c : ℕ) (w : WorldValue Inner Chan) → ticks_left (stepped rules (Take c) w) ≡ ticks_left w
  unfolding stepped
  take_left c w = total_kept (λ lane. w.end - lane.clock) (λ lane. lane_taking rules lane.posts lane) (λ lane. ap (λ t. w.end - t) (taking_clock lane.posts lane)) c w.lanes

  pub take_served : (c : ℕ) (w : WorldValue Inner Chan) → NoKey (oldest_id w.lanes) → NoKey (oldest_id (stepped rules (Take c) w).lanes)
  unfolding stepped
  take_served c w none j = seen_kept (λ (lane : LaneValue Inner). first_id lane.asks) None (λ lane. lane_taking rules lane.posts lane) (λ lane. ap first_id (taking_asks lane.posts lane)) j c w.lanes ∙ none j

  -- ticking
  ticked_less : (end clock : ℕ) (lane : LaneValue Inner) → cond (nat_lt lane.clock end) (Some lane.clock) None ≡ Some clock → end - (lane_ticked rules end lane).clock < end - lane.clock
  ticked_less end clock lane =
      let now = tick_of rules lane.clock lane.core in
      elim (nat_lt lane.clock end) as
      (λ b. nat_lt lane.clock end ≡ b → cond b (Some lane.clock) None ≡ Some clock
      → end - (cond b (record lane { core = now.0; clock = lane.clock + 1; asks = lane.asks ++ now.1 }) lane).clock < end - lane.clock) [
        | true ↦ λ below e. let l = ltb-true lane.clock end below in omega arith
        | false ↦ λ _ e. absurd (none-some clock e)
      ] refl

  pub tick_less : (c clock : ℕ) (w : WorldValue Inner Chan) → open_clock w.end w.lanes c ≡ Some clock → ticks_left (stepped rules (Tick c) w) < ticks_left w
  unfolding stepped
  tick_less c clock w e =
      total_less (λ lane. w.end - lane.clock) (lane_ticked rules w.end) (λ lane. cond (nat_lt lane.clock w.end) (Some lane.clock) None) clock (λ lane h. ticked_less w.end clock lane h) c w.lanes e
