-- A drift in pieces that is under way, one piece further.
use Rattle.std.proofs.Common.{◌≡◌, ◌≢◌, ◌∙◌, ℕ, ◌+◌, ◌≤◌, ◌==◌, List, [], ◌∷◌, ◌++◌, map, refl, sym, ap, subst, arith, append_assoc}
use Rattle.std.specs.List.{AllByRecursion as Each}
use Rattle.std.proofs.lemmas.List.{append-nil, map-append}
use Rattle.std.proofs.lemmas.List.Elements.{filter-append}
use Rattle.slack_base.specs.declared.bounds.TheConstants.{TOP}
use Rattle.slack_base.specs.declared.histories.Taken.{Taken}
use Rattle.slack_base.specs.declared.messages.Ask.{Ask}
use Rattle.slack_base.specs.declared.messages.Post.{Post}
use Rattle.slack_base.specs.Inboxes.{CoreValue, with_put}
use Rattle.slack_base.specs.Messages.{id_of}
use Rattle.target_law.specs.Alone.{Alone, begins, takes, taking}
use Rattle.target_law.specs.Cycles.{StateValue, changed_at, through}
use Rattle.target_law.specs.Drifts.{asks_by, posts_to}
use Rattle.target_law.specs.Laws.{Laws}
use Rattle.target_law.specs.Numbered.{AllNumbered}
use Rattle.target_law.specs.Proper.{IsProperAsk}
use Rattle.target_law.specs.Rules.{Rules, Owns}
use Rattle.target_law.proofs.Lists.{filter-yes, filter-no, each_append}
use Rattle.target_law.proofs.Numbers.{eq_is, eq_is_not}
use Rattle.violation_watch.proofs.Channels.{through_chans-append, through_posts-append}
use Rattle.drive_script.proofs.Places.{Along, along_changed}
use Rattle.drive_script.proofs.Underway.{through_clashes-append}
use Rattle.pacing.specs.Open.{IsOpen}
use Rattle.pacing.specs.Pieces.{LaneValue, UnderwayValue, lane_begun, begun, lane_ticked, lane_taking, all_taking, pieced, IsPiece}
use Rattle.pacing.proofs.Opened.{piece_asks}
use Rattle.pacing.proofs.Shares.{served_shares}
use Rattle.pacing.proofs.Ticks.{ticks_alone}

along_map : {X Y : Type 0} (P Q : ℕ → X → Y → Type 0) (R : ℕ → Y → Type 0) (f : Y → Y) → ((c : ℕ) (x : X) (y : Y) → R c y → P c x y → Q c x (f y))
    → (n : ℕ) (xs : List X) (ys : List Y) → AllNumbered R n ys → Along P n xs ys → Along Q n xs (map f ys)
along_map P Q R f keeps n [] [] are h = tt
along_map P Q R f keeps n [] (y ∷ ys) are h = h
along_map P Q R f keeps n (x ∷ xs) [] are h = h
along_map P Q R f keeps n (x ∷ xs) (y ∷ ys) are h = (keeps n x y are.0 h.0, along_map P Q R f keeps (n + 1) xs ys are.1 h.1)

module _ {Inner Chan : Type 0} (rules : Rules Inner Chan) where
  -- what the core of this number, which was `first` at clock a, has come to at a clock, once these asks were served and
  -- these posts were sent
  pub record IsLaneUnderway (a clock : ℕ) (served : List Ask) (sent : List Post) (c : ℕ) (first : CoreValue Inner) (lane : LaneValue Inner) : Type 0 where
    pub count : ℕ
    pub at : clock ≡ a + count
    pub alone : Alone rules first a count lane.taken lane.core (asks_by c served)
    pub received : map (λ x. x.post) lane.taken ≡ posts_to c sent

  module _ (a c : ℕ) (served : List Ask) (sent : List Post) (first : CoreValue Inner) where
    lane_begins : IsLaneUnderway a a [] [] c first (lane_begun first)
    lane_begins = record { count = 0; at = omega arith; alone = begins; received = refl }

    -- it ticks through a piece, and its asks of it are served
    lane_ticks : (t k : ℕ) (asks : List Ask) (lane : LaneValue Inner) → asks_by c asks ≡ (lane_ticked rules t k lane).1 → IsLaneUnderway a t served sent c first lane
        → IsLaneUnderway a (t + k) (served ++ asks) sent c first (lane_ticked rules t k lane).0
    lane_ticks t k asks lane own is =
        let at = is.at in
        record {
          count = is.count + k;
          at = omega arith;
          alone =
              subst (Alone rules first a (is.count + k) lane.taken (lane_ticked rules t k lane).0.core)
              (ap (λ xs. asks_by c served ++ xs) (sym own) ∙ sym (filter-append (λ ask. (id_of ask).core == c) served asks))
              (ticks_alone rules first a is.count t k (is.count + k) lane.taken lane.core (asks_by c served) at refl is.alone);
          received = is.received;
        }

    -- it takes a post
    lane_takes : (t : ℕ) (p : Post) (lane : LaneValue Inner) → p.to ≡ c → IsLaneUnderway a t served sent c first lane → IsLaneUnderway a t served (sent ++ p ∷ []) c first (lane_taking rules t p lane)
    lane_takes t p lane own is = record {
      count = is.count;
      at = is.at;
      alone = subst (λ u. Alone rules first a is.count (lane.taken ++ taking rules u lane.core.inner p ∷ []) (with_put p lane.core) (asks_by c served)) (sym is.at) (takes p is.alone);
      received =
          map-append (λ (y : Taken). y.post) lane.taken (taking rules t lane.core.inner p ∷ [])
          ∙ ap (λ ps. ps ++ p ∷ []) is.received
          ∙ ap (λ ps. posts_to c sent ++ ps) (sym (filter-yes (λ q. q.to == c) p [] (eq_is p.to c own)))
          ∙ sym (filter-append (λ q. q.to == c) sent (p ∷ []));
    }

    -- another core takes one
    lane_passed : (t : ℕ) (p : Post) (lane : LaneValue Inner) → p.to ≢ c → IsLaneUnderway a t served sent c first lane → IsLaneUnderway a t served (sent ++ p ∷ []) c first lane
    lane_passed t p lane other is = record {
      count = is.count;
      at = is.at;
      alone = is.alone;
      received =
          is.received
          ∙ sym (append-nil (posts_to c sent))
          ∙ ap (λ ps. posts_to c sent ++ ps) (sym (filter-no (λ q. q.to == c) p [] (eq_is_not p.to c other)))
          ∙ sym (filter-append (λ q. q.to == c) sent (p ∷ []));
    }

  -- posts are taken
  lanes_take : (a t : ℕ) (served : List Ask) (sent posts : List Post) (firsts : List (CoreValue Inner)) (lanes : List (LaneValue Inner))
      → Along (IsLaneUnderway a t served sent) 0 firsts lanes → Along (IsLaneUnderway a t served (sent ++ posts)) 0 firsts (all_taking rules t lanes posts)
  lanes_take a t served sent [] firsts lanes h = subst (λ ps. Along (IsLaneUnderway a t served ps) 0 firsts lanes) (sym (append-nil sent)) h
  lanes_take a t served sent (p ∷ posts) firsts lanes h =
      subst (λ ps. Along (IsLaneUnderway a t served ps) 0 firsts (all_taking rules t (changed_at p.to (lane_taking rules t p) lanes) posts)) (append_assoc sent (p ∷ []) posts)
      (lanes_take a t served (sent ++ p ∷ []) posts firsts (changed_at p.to (lane_taking rules t p) lanes)
      (along_changed (IsLaneUnderway a t served sent) (IsLaneUnderway a t served (sent ++ p ∷ [])) (lane_taking rules t p) (λ lane. lane.taken) [] 0 p.to firsts lanes
      (λ c first lane e _ is. lane_takes a c served sent first t p lane (let at : p.to ≡ c = omega arith in at) is)
      (λ c first lane e is. lane_passed a c served sent first t p lane (λ same. e (omega arith)) is) h))

  -- a drift that is under way from a state
  pub record IsUnderway (s : StateValue Inner Chan) (w : UnderwayValue Inner Chan) : Type 0 where
    pub proper : Each (IsProperAsk rules) w.served
    pub chans : w.chans ≡ (through rules s.chans w.served).chans
    pub clashes : w.clashes ≡ (through rules s.chans w.served).clashes
    pub lanes : Along (IsLaneUnderway s.clock w.clock w.served (through rules s.chans w.served).posts) 0 s.cores w.lanes

  lanes_begin : (a n : ℕ) (cores : List (CoreValue Inner)) → Along (IsLaneUnderway a a [] []) n cores (map lane_begun cores)
  lanes_begin a n [] = tt
  lanes_begin a n (core ∷ cores) = (lane_begins a n [] [] core, lanes_begin a (n + 1) cores)

  pub underway_begun : (s : StateValue Inner Chan) → IsUnderway s (begun s)
  underway_begun s = record { proper = tt; chans = refl; clashes = refl; lanes = lanes_begin s.clock 0 s.cores }

  underway_pieced : (s : StateValue Inner Chan) (k : ℕ) (w : UnderwayValue Inner Chan) (asks : List Ask) → Each (IsProperAsk rules) asks
      → AllNumbered (λ c lane. asks_by c asks ≡ (lane_ticked rules w.clock k lane).1) 0 w.lanes → IsUnderway s w → IsUnderway s (pieced rules k asks w)
  unfolding pieced
  underway_pieced s k w asks proper own is =
      let before = through rules s.chans w.served in
      let out = through rules w.chans asks in
      let more = through rules before.chans asks in
      let same : out ≡ more = ap (λ chans. through rules chans asks) is.chans in
      let f = λ (lane : LaneValue Inner). (lane_ticked rules w.clock k lane).0 in
      let P = IsLaneUnderway s.clock w.clock w.served before.posts in
      let Q = IsLaneUnderway s.clock (w.clock + k) (w.served ++ asks) before.posts in
      record {
        proper = each_append (IsProperAsk rules) w.served asks is.proper proper;
        chans = ap (λ r. r.chans) same ∙ sym (through_chans-append rules s.chans w.served asks);
        clashes = ap (λ hs. hs ++ out.clashes) is.clashes ∙ ap (λ r. before.clashes ++ r.clashes) same ∙ sym (through_clashes-append rules s.chans w.served asks);
        lanes =
            subst (λ ps. Along (IsLaneUnderway s.clock (w.clock + k) (w.served ++ asks) ps) 0 s.cores (all_taking rules (w.clock + k) (map f w.lanes) out.posts))
            (ap (λ r. before.posts ++ r.posts) same ∙ sym (through_posts-append rules s.chans w.served asks))
            (lanes_take s.clock (w.clock + k) (w.served ++ asks) before.posts out.posts s.cores (map f w.lanes)
            (along_map P Q (λ c lane. asks_by c asks ≡ (lane_ticked rules w.clock k lane).1) f
            (λ c first lane mine h. lane_ticks s.clock c w.served before.posts first w.clock k asks lane mine h) 0 s.cores w.lanes own is.lanes));
      }

  module _ (owns : Owns Inner Chan) (laws : Laws rules owns) where
    pub underway_piece : (s : StateValue Inner Chan) (k : ℕ) (w v : UnderwayValue Inner Chan) → w.clock + k ≤ TOP → IsOpen rules owns w → IsPiece rules k w v → IsUnderway s w → IsUnderway s v
    underway_piece s k w v low here is under =
        subst (IsUnderway s) (sym is.after)
        (underway_pieced s k w is.asks (piece_asks rules owns laws k w v low here is)
        (served_shares rules owns laws w.clock k (w.clock + k) refl low w.lanes here.lanes is.asks is.sent is.rising) under)
