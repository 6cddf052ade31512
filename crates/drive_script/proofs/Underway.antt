-- A drift that is under way, one step further.
use Rattle.std.proofs.Common.{◌≡◌, ◌≢◌, ◌∙◌, ℕ, ◌+◌, ◌==◌, suc, List, [], ◌∷◌, ◌++◌, map, true, false, cond, nat_lt, Option, Some, None, refl, sym, ap, subst, arith, append_assoc}
use Rattle.std.specs.List.{AllByRecursion as Each}
use Rattle.std.proofs.lemmas.List.{append-nil, map-append}
use Rattle.std.proofs.lemmas.List.Elements.{filter-append}
use Rattle.slack_base.specs.declared.histories.Taken.{Taken}
use Rattle.slack_base.specs.declared.messages.Ask.{Ask}
use Rattle.slack_base.specs.declared.messages.Post.{Post}
use Rattle.slack_base.specs.declared.steps.Step.{Step}
use Rattle.slack_base.specs.declared.steps.Step.TheVariants.{Tick, Serve, Take}
use Rattle.slack_base.specs.Inboxes.{CoreValue, with_put}
use Rattle.slack_base.specs.Messages.{id_of}
use Rattle.target_law.specs.Alone.{Alone, begins, takes, ticks, taking}
use Rattle.target_law.specs.Cycles.{StateValue, changed_at, seen_at, tick_of, through}
use Rattle.target_law.specs.Drifts.{asks_by, posts_to}
use Rattle.target_law.specs.Laws.{Laws}
use Rattle.target_law.specs.Proper.{IsProperAsk}
use Rattle.target_law.specs.Rules.{Rules, Owns}
use Rattle.target_law.proofs.Lists.{filter-yes, filter-no, each_append}
use Rattle.target_law.proofs.Numbers.{eq_is, eq_is_not}
use Rattle.target_law.proofs.Serving.{after_ask}
use Rattle.violation_watch.proofs.Channels.{through_chans-append, through_posts-append}
use Rattle.drive_script.specs.Open.{IsOpen}
use Rattle.drive_script.specs.Scripts.{begun, opened}
use Rattle.drive_script.specs.Worlds.{LaneValue, WorldValue, oldest, younger, without_oldest, with_waiting, posted, oldest_ask, lane_ticked, lane_taking, world_serving, stepped}
use Rattle.drive_script.proofs.Opened.{oldest_of}
use Rattle.drive_script.proofs.Places.{Along, along_changed, oldest_first}

module _ {Inner Chan : Type 0} (rules : Rules Inner Chan) where
  pub through_clashes-append : (chans : List Chan) (asks others : List Ask)
      → (through rules chans (asks ++ others)).clashes ≡ (through rules chans asks).clashes ++ (through rules (through rules chans asks).chans others).clashes
  through_clashes-append chans [] others = refl
  through_clashes-append chans (x ∷ asks) others = ap (λ hs. seen_at (rules.channel_of x) (λ chan. rules.clash chan x) None chans ∷ hs) (through_clashes-append (after_ask rules x chans) asks others)

  -- what the core of this number, which was `first` at clock a, has come to, once these asks were served and these posts
  -- were sent
  pub record IsLaneUnderway (a : ℕ) (served : List Ask) (sent : List Post) (c : ℕ) (first : CoreValue Inner) (lane : LaneValue Inner) : Type 0 where
    pub count : ℕ
    pub at : lane.clock ≡ a + count
    pub alone : Alone rules first a count lane.taken lane.core (asks_by c served ++ lane.asks)
    pub received : map (λ x. x.post) lane.taken ++ lane.posts ≡ posts_to c sent

  module _ (a c : ℕ) (served : List Ask) (sent : List Post) (first : CoreValue Inner) where
    lane_begun : IsLaneUnderway a [] [] c first (begun a first)
    lane_begun = record { count = 0; at = omega arith; alone = begins; received = refl }

    -- it ticks
    lane_ticks : (end : ℕ) (lane : LaneValue Inner) → IsLaneUnderway a served sent c first lane → IsLaneUnderway a served sent c first (lane_ticked rules end lane)
    lane_ticks end lane is =
        let now = tick_of rules lane.clock lane.core in
        elim (nat_lt lane.clock end) as (λ b. IsLaneUnderway a served sent c first (cond b (record lane { core = now.0; clock = lane.clock + 1; asks = lane.asks ++ now.1 }) lane)) [
          | true ↦ record {
            count = suc is.count;
            at = let at = is.at in omega arith;
            alone =
                subst (Alone rules first a (suc is.count) lane.taken now.0) (append_assoc (asks_by c served) lane.asks now.1)
                (subst (λ t. Alone rules first a (suc is.count) lane.taken (tick_of rules t lane.core).0 ((asks_by c served ++ lane.asks) ++ (tick_of rules t lane.core).1)) (sym is.at) (ticks is.alone));
            received = is.received;
          }
          | false ↦ is
        ]

    -- it takes the oldest post
    lane_takes : (posts : List Post) (lane : LaneValue Inner) → lane.posts ≡ posts → IsLaneUnderway a served sent c first lane → IsLaneUnderway a served sent c first (lane_taking rules posts lane)
    lane_takes [] lane e is = is
    lane_takes (p ∷ posts) lane e is =
        let x = taking rules lane.clock lane.core.inner p in
        record {
          count = is.count;
          at = is.at;
          alone = subst (λ t. Alone rules first a is.count (lane.taken ++ taking rules t lane.core.inner p ∷ []) (with_put p lane.core) (asks_by c served ++ lane.asks)) (sym is.at) (takes p is.alone);
          received =
              ap (λ ps. ps ++ posts) (map-append (λ (y : Taken). y.post) lane.taken (x ∷ []))
              ∙ append_assoc (map (λ (y : Taken). y.post) lane.taken) (p ∷ []) posts
              ∙ ap (λ ps. map (λ (y : Taken). y.post) lane.taken ++ ps) (sym e)
              ∙ is.received;
        }

    -- its oldest ask is served
    lane_served : (x : Ask) (lane : LaneValue Inner) → (id_of x).core ≡ c → oldest lane.asks ≡ Some x → IsLaneUnderway a served sent c first lane
        → IsLaneUnderway a (served ++ x ∷ []) sent c first (without_oldest lane)
    lane_served x lane own e is = record {
      count = is.count;
      at = is.at;
      alone =
          subst (Alone rules first a is.count lane.taken lane.core)
          (ap (λ xs. asks_by c served ++ xs) (oldest_first lane.asks x e)
          ∙ sym (append_assoc (asks_by c served) (x ∷ []) (younger lane.asks))
          ∙ ap (λ xs. xs ++ younger lane.asks)
          (ap (λ xs. asks_by c served ++ xs) (sym (filter-yes (λ ask. (id_of ask).core == c) x [] (eq_is (id_of x).core c own)))
          ∙ sym (filter-append (λ ask. (id_of ask).core == c) served (x ∷ []))))
          is.alone;
      received = is.received;
    }

    -- an ask of another core is served
    lane_other : (x : Ask) (lane : LaneValue Inner) → (id_of x).core ≢ c → IsLaneUnderway a served sent c first lane → IsLaneUnderway a (served ++ x ∷ []) sent c first lane
    lane_other x lane other is = record {
      count = is.count;
      at = is.at;
      alone =
          subst (Alone rules first a is.count lane.taken lane.core)
          (ap (λ xs. xs ++ lane.asks)
          (sym (append-nil (asks_by c served))
          ∙ ap (λ xs. asks_by c served ++ xs) (sym (filter-no (λ ask. (id_of ask).core == c) x [] (eq_is_not (id_of x).core c other)))
          ∙ sym (filter-append (λ ask. (id_of ask).core == c) served (x ∷ []))))
          is.alone;
      received = is.received;
    }

    -- a post was sent to it
    lane_waits : (p : Post) (lane : LaneValue Inner) → p.to ≡ c → IsLaneUnderway a served sent c first lane → IsLaneUnderway a served (sent ++ p ∷ []) c first (with_waiting p lane)
    lane_waits p lane own is = record {
      count = is.count;
      at = is.at;
      alone = is.alone;
      received =
          sym (append_assoc (map (λ (y : Taken). y.post) lane.taken) lane.posts (p ∷ []))
          ∙ ap (λ ps. ps ++ p ∷ []) is.received
          ∙ ap (λ ps. posts_to c sent ++ ps) (sym (filter-yes (λ q. q.to == c) p [] (eq_is p.to c own)))
          ∙ sym (filter-append (λ q. q.to == c) sent (p ∷ []));
    }

    -- a post was sent to another core
    lane_passed : (p : Post) (lane : LaneValue Inner) → p.to ≢ c → IsLaneUnderway a served sent c first lane → IsLaneUnderway a served (sent ++ p ∷ []) c first lane
    lane_passed p lane other is = record {
      count = is.count;
      at = is.at;
      alone = is.alone;
      received =
          is.received
          ∙ sym (append-nil (posts_to c sent))
          ∙ ap (λ ps. posts_to c sent ++ ps) (sym (filter-no (λ q. q.to == c) p [] (eq_is_not p.to c other)))
          ∙ sym (filter-append (λ q. q.to == c) sent (p ∷ []));
    }

  -- posts wait
  lanes_posted : (a : ℕ) (served : List Ask) (sent posts : List Post) (firsts : List (CoreValue Inner)) (lanes : List (LaneValue Inner))
      → Along (IsLaneUnderway a served sent) 0 firsts lanes → Along (IsLaneUnderway a served (sent ++ posts)) 0 firsts (posted lanes posts)
  lanes_posted a served sent [] firsts lanes h = subst (λ ps. Along (IsLaneUnderway a served ps) 0 firsts lanes) (sym (append-nil sent)) h
  lanes_posted a served sent (p ∷ posts) firsts lanes h =
      subst (λ ps. Along (IsLaneUnderway a served ps) 0 firsts (posted (changed_at p.to (with_waiting p) lanes) posts)) (append_assoc sent (p ∷ []) posts)
      (lanes_posted a served (sent ++ p ∷ []) posts firsts (changed_at p.to (with_waiting p) lanes)
      (along_changed (IsLaneUnderway a served sent) (IsLaneUnderway a served (sent ++ p ∷ [])) (with_waiting p) (λ lane. lane.clock) 0 0 p.to firsts lanes
      (λ c first lane e _ is. lane_waits a c served sent first p lane (let at : p.to ≡ c = omega arith in at) is)
      (λ c first lane e is. lane_passed a c served sent first p lane (λ same. e (omega arith)) is) h))

  -- the world of a drift that is under way from a state
  pub record IsUnderway (s : StateValue Inner Chan) (w : WorldValue Inner Chan) : Type 0 where
    pub proper : Each (IsProperAsk rules) w.served
    pub chans : w.chans ≡ (through rules s.chans w.served).chans
    pub clashes : w.clashes ≡ (through rules s.chans w.served).clashes
    pub lanes : Along (IsLaneUnderway s.clock w.served (through rules s.chans w.served).posts) 0 s.cores w.lanes

  lanes_begun : (a n : ℕ) (cores : List (CoreValue Inner)) → Along (IsLaneUnderway a [] []) n cores (map (begun a) cores)
  lanes_begun a n [] = tt
  lanes_begun a n (core ∷ cores) = (lane_begun a n [] [] core, lanes_begun a (n + 1) cores)

  pub underway_opened : (s : StateValue Inner Chan) (k : ℕ) → IsUnderway s (opened s k)
  underway_opened s k = record { proper = tt; chans = refl; clashes = refl; lanes = lanes_begun s.clock 0 s.cores }

  module _ (owns : Owns Inner Chan) (laws : Laws rules owns) (s : StateValue Inner Chan) where
    underway_serving : (c : ℕ) (o : Option Ask) (w : WorldValue Inner Chan) → oldest_ask w.lanes c ≡ o → IsOpen rules owns w → IsUnderway s w → IsUnderway s (world_serving rules c o w)
    underway_serving c None w e here is = is
    underway_serving c (Some x) w e here is =
        let own = oldest_of rules owns laws w.end c w.lanes x here.lanes e in
        let out = through rules s.chans w.served in
        let more = through rules out.chans (x ∷ []) in
        let same : through rules w.chans (x ∷ []) ≡ more = ap (λ chans. through rules chans (x ∷ [])) is.chans in
        let left = changed_at c (λ lane. without_oldest lane) w.lanes in
        record {
          proper = each_append (IsProperAsk rules) w.served (x ∷ []) is.proper (own.proper, tt);
          chans = ap (λ r. r.chans) same ∙ sym (through_chans-append rules s.chans w.served (x ∷ []));
          clashes =
              ap (λ hs. hs ++ (through rules w.chans (x ∷ [])).clashes) is.clashes ∙ ap (λ r. out.clashes ++ r.clashes) same
              ∙ sym (through_clashes-append s.chans w.served (x ∷ []));
          lanes =
              subst (λ ps. Along (IsLaneUnderway s.clock (w.served ++ x ∷ []) ps) 0 s.cores (posted left (through rules w.chans (x ∷ [])).posts))
              (ap (λ r. out.posts ++ r.posts) same ∙ sym (through_posts-append rules s.chans w.served (x ∷ [])))
              (lanes_posted s.clock (w.served ++ x ∷ []) out.posts (through rules w.chans (x ∷ [])).posts s.cores left
              (along_changed (IsLaneUnderway s.clock w.served out.posts) (IsLaneUnderway s.clock (w.served ++ x ∷ []) out.posts) (λ lane. without_oldest lane) (λ lane. oldest lane.asks) None 0 c s.cores w.lanes
              (λ j first lane at seen h. lane_served s.clock j w.served out.posts first x lane (own.core ∙ (let here : c ≡ j = omega arith in here)) (sym seen ∙ e) h)
              (λ j first lane ne h. lane_other s.clock j w.served out.posts first x lane (λ at. ne (let core = own.core in omega arith)) h)
              is.lanes));
        }

    pub underway_stepped : (x : Step) (w : WorldValue Inner Chan) → IsOpen rules owns w → IsUnderway s w → IsUnderway s (stepped rules x w)
    unfolding stepped
    underway_stepped (Tick c) w here is =
        let P = IsLaneUnderway s.clock w.served (through rules s.chans w.served).posts in
        record {
          proper = is.proper;
          chans = is.chans;
          clashes = is.clashes;
          lanes = along_changed P P (lane_ticked rules w.end) (λ lane. lane.clock) 0 0 c s.cores w.lanes
              (λ j first lane _ _ h. lane_ticks s.clock j w.served (through rules s.chans w.served).posts first w.end lane h) (λ j first lane _ h. h) is.lanes;
        }
    underway_stepped (Serve c) w here is = underway_serving c (oldest_ask w.lanes c) w refl here is
    underway_stepped (Take c) w here is =
        let P = IsLaneUnderway s.clock w.served (through rules s.chans w.served).posts in
        record {
          proper = is.proper;
          chans = is.chans;
          clashes = is.clashes;
          lanes = along_changed P P (λ lane. lane_taking rules lane.posts lane) (λ lane. lane.clock) 0 0 c s.cores w.lanes
              (λ j first lane _ _ h. lane_takes s.clock j w.served (through rules s.chans w.served).posts first lane.posts lane refl h) (λ j first lane _ h. h) is.lanes;
        }
