-- An actor goes on: each step of a turn leaves it ready, and it comes still of what it came of.
use Rattle.std.proofs.Common.{◌≡◌, ◌∙◌, ℕ, ◌+◌, ◌<◌, ◌≤◌, suc, List, [], ◌∷◌, ◌++◌, length, map, Bool, true, false, nat_lt, IsTrue, IsFalse, refl, sym, ap, ap₂, subst, arith, append_assoc, le_refl, le_trans, ⊎_elim, inl, inr}
use Rattle.std.proofs.lemmas.Bool.{cases_eq, ltb-true, ltb-false}
use Rattle.std.proofs.lemmas.List.{append-nil, length-append, map-append}
use Rattle.slack_base.specs.declared.histories.Taken.{Taken}
use Rattle.slack_base.specs.declared.messages.Ask.{Ask}
use Rattle.slack_base.specs.declared.messages.Post.{Post}
use Rattle.slack_base.proofs.Inboxes.{all_with_post}
use Rattle.stamp_queue.specs.declared.senders.Sender.{Sender}
use Rattle.stamp_queue.specs.declared.receivers.Receiver.{Receiver}
use Rattle.stamp_queue.specs.Rings.{all_sent, all_received, SameSender, SameReceiver, HandsOver}
use Rattle.core_gate.specs.Seats.{SamePacer}
use Rattle.core_gate.specs.declared.pacers.Pacer.{Pacer}
use Rattle.target_law.specs.Alone.{begins, taking}
use Rattle.target_law.specs.Cycles.{tick_of}
use Rattle.target_law.specs.Laws.{Laws}
use Rattle.target_law.specs.Proper.{IsPostTo}
use Rattle.target_law.specs.Rules.{Rules, Owns}
use Rattle.target_law.specs.Values.{Values}
use Rattle.target_law.proofs.Lists.{each_append}
use Rattle.violation_watch.specs.Watching.{HasTaken, begins as new_watch, takes as watch_takes}
use Rattle.drive_script.specs.Open.{IsLaneOf}
use Rattle.drive_script.specs.Worlds.{LaneValue}
use Rattle.drive_script.proofs.Opened.{lane_open_ticked}
use Rattle.core_actor.specs.Actors.{IsReady, HasTurned, Went}
use Rattle.core_actor.specs.Beginnings.{AllBegin}
use Rattle.core_actor.specs.declared.actors.CoreActor.{CoreActor}
use Rattle.core_actor.proofs.Steps.{alone_takes, alone_ticks, ticked_below, Took}

pub same_sender : (a : Sender Ask) → SameSender a a
same_sender a = ((refl, refl, refl, refl), refl)

pub same_receiver : (a : Receiver Post) → SameReceiver a a
same_receiver a = ((refl, refl, refl, refl), refl)

pub same_sender_then : (a b d : Sender Ask) → SameSender a b → SameSender b d → SameSender a d
same_sender_then a b d h k = ((k.0.0 ∙ h.0.0, k.0.1 ∙ h.0.1, k.0.2 ∙ h.0.2, k.0.3 ∙ h.0.3), k.1 ∙ h.1)

pub same_receiver_then : (a b d : Receiver Post) → SameReceiver a b → SameReceiver b d → SameReceiver a d
same_receiver_then a b d h k = ((k.0.0 ∙ h.0.0, k.0.1 ∙ h.0.1, k.0.2 ∙ h.0.2, k.0.3 ∙ h.0.3), k.1 ∙ h.1)

pub same_pacer_then : (a b d : Pacer) → SamePacer a b → SamePacer b d → SamePacer a d
same_pacer_then a b d h k = (k.0 ∙ h.0, k.1 ∙ h.1, k.2 ∙ h.2)

module _ {Core Chan Inner Channel : Type 0} (rules : Rules Inner Channel) (owns : Owns Inner Channel) (values : Values Core Chan Inner Channel) where
  -- at the start
  pub all_begin : AllBegin rules owns values
  all_begin end core asks posts pacer a h =
      let is = h.begun in
      let number : a.pacer.number ≡ pacer.number = ap (λ (p : Pacer). p.number) is.paced in
      let sent : all_sent a.asks ≡ [] = ap all_sent is.sends ∙ h.sent in
      let none : all_received a.posts ≡ [] = ap all_received is.receives ∙ h.received in (
        record {
          core = rw (is.has_core, number) h.own;
          paced = is.clock ∙ ap (λ (p : Pacer). p.clock) (sym is.paced);
          below = rw is.clock h.below;
          top = h.top;
          no_asks = is.no_asks;
          sent = rw sent tt;
          rising = rw sent tt;
          earlier = rw sent tt;
          received = none ∙ rw (is.taken, is.no_posts) refl;
          proper = rw is.taken tt;
          watched = rw is.taken (new_watch is.watches);
        },
        record { count = 0; at = let e = is.clock in omega arith; alone = rw (is.taken, is.has_core, sent) begins },
      )

  module _ (end : ℕ) where
    pub Went-then : (a b d : CoreActor Core) → Went rules owns values end a b → Went rules owns values end b d → Went rules owns values end a d
    Went-then a b d h k = record {
      ready = k.ready;
      asks = same_sender_then a.asks b.asks d.asks h.asks k.asks;
      posts = same_receiver_then a.posts b.posts d.posts h.posts k.posts;
      pacer = same_pacer_then a.pacer b.pacer d.pacer h.pacer k.pacer;
      seen = le_trans h.seen k.seen;
      received = (h.received.0 ++ k.received.0, k.received.1 ∙ ap (λ ps. ps ++ k.received.0) h.received.1 ∙ append_assoc (all_received a.posts) h.received.0 k.received.0);
      clock = le_trans h.clock k.clock;
      alone = λ from first x. k.alone from first (h.alone from first x);
    }

    pub went_nowhere : (a : CoreActor Core) → IsReady rules owns values end a → Went rules owns values end a a
    went_nowhere a h = record {
      ready = h;
      asks = same_sender a.asks;
      posts = same_receiver a.posts;
      pacer = (refl, refl, refl);
      received = ([], sym (append-nil (all_received a.posts)));
      seen = le_refl a.pacer.seen;
      clock = le_refl a.lane.clock;
      alone = λ from first x. x;
    }

    -- a turn after other steps
    pub turned_from : (a b d : CoreActor Core) → Went rules owns values end a b → HasTurned rules b d → HasTurned rules a d
    turned_from a b d h k = record {
      sent = k.sent;
      received = ⊎_elim
          (λ none. inl none)
          (λ most. inr (
          let more = ap length h.received.1 ∙ length-append (all_received a.posts) h.received.0 in
          let slots = h.posts.1 in
          omega arith
          ))
          k.received;
      taken = k.taken;
    }

    -- messages passed: nothing more was sent, and what was received waits
    module _ (a b : CoreActor Core) (h : IsReady rules owns values end a)
        (core : b.lane.core ≡ a.lane.core) (clock : b.lane.clock ≡ a.lane.clock) (asks : b.lane.asks.items ≡ a.lane.asks.items) (taken : b.lane.taken ≡ a.lane.taken)
        (watch : b.watch ≡ a.watch) (sent : all_sent b.asks ≡ all_sent a.asks) (handed : HandsOver a.posts b.posts a.lane.posts.items b.lane.posts.items)
        (paced : b.pacer.clock ≡ a.pacer.clock) (same : SamePacer a.pacer b.pacer) where
      pub ready_passed : IsReady rules owns values end b
      ready_passed = record {
        core = rw (same.1, core) h.core;
        paced = clock ∙ h.paced ∙ sym paced;
        below = rw clock h.below;
        top = h.top;
        no_asks = asks ∙ h.no_asks;
        sent = rw (same.1, sent) h.sent;
        rising = rw sent h.rising;
        earlier = rw (clock, sent) h.earlier;
        received =
            handed.1
            ∙ ap (λ ps. ps ++ handed.0) h.received
            ∙ append_assoc (map (λ (x : Taken). x.post) a.lane.taken) a.lane.posts.items handed.0
            ∙ ap₂ (λ xs ps. map (λ (x : Taken). x.post) xs ++ ps) (sym taken) (sym handed.2);
        proper = rw (same.1, taken) h.proper;
        watched = rw (same.1, taken, watch) h.watched;
      }

      pub went_passed : SameSender a.asks b.asks → SameReceiver a.posts b.posts → a.pacer.seen ≤ b.pacer.seen → Went rules owns values end a b
      went_passed sender receiver seen = record {
        ready = ready_passed;
        asks = sender;
        posts = receiver;
        pacer = same;
        received = (handed.0, handed.1);
        seen = seen;
        clock = rw clock (le_refl a.lane.clock);
        alone = λ from first x. record { count = x.count; at = clock ∙ x.at; alone = rw (taken, core, sent) x.alone };
      }

    -- a post was taken
    module _ (a b : CoreActor Core) (p : Post) (rest : List Post) (h : IsReady rules owns values end a)
        (next : a.lane.posts.items ≡ p ∷ rest) (own : IsPostTo rules a.pacer.number p) (took : Took rules values p rest a.lane b.lane)
        (saw : HasTaken a.pacer.number end (taking rules a.lane.clock (values.core a.lane.core).inner p) a.watch b.watch)
        (asks : b.asks ≡ a.asks) (posts : b.posts ≡ a.posts) (pacer : b.pacer ≡ a.pacer) where
      abbrev x : Taken
      x = taking rules a.lane.clock (values.core a.lane.core).inner p

      received_more : all_received b.posts ≡ map (λ (y : Taken). y.post) b.lane.taken ++ b.lane.posts.items
      received_more =
          ap all_received posts ∙ h.received
          ∙ ap (λ ps. map (λ (y : Taken). y.post) a.lane.taken ++ ps) next
          ∙ sym (append_assoc (map (λ (y : Taken). y.post) a.lane.taken) (p ∷ []) rest)
          ∙ ap (λ ps. ps ++ rest) (sym (map-append (λ (y : Taken). y.post) a.lane.taken (x ∷ [])))
          ∙ ap₂ (λ xs ps. map (λ (y : Taken). y.post) xs ++ ps) (sym took.taken) (sym took.posts)

      ready_took : IsReady rules owns values end b
      ready_took = record {
        core = rw (pacer, took.core) (record { own = h.core.own; number = h.core.number; inbox = all_with_post (IsPostTo rules a.pacer.number) (values.core a.lane.core).inbox p h.core.inbox own });
        paced = took.clock ∙ h.paced ∙ ap (λ (q : Pacer). q.clock) (sym pacer);
        below = rw took.clock h.below;
        top = h.top;
        no_asks = took.asks ∙ h.no_asks;
        sent = rw (pacer, asks) h.sent;
        rising = rw asks h.rising;
        earlier = rw (took.clock, asks) h.earlier;
        received = received_more;
        proper = rw (pacer, took.taken) (each_append (λ (y : Taken). IsPostTo rules a.pacer.number y.post) a.lane.taken (x ∷ []) h.proper (own, tt));
        watched = rw (pacer, took.taken) (watch_takes x h.watched saw);
      }

      pub went_took : Went rules owns values end a b
      went_took = record {
        ready = ready_took;
        asks = rw asks (same_sender a.asks);
        posts = rw posts (same_receiver a.posts);
        pacer = rw pacer (refl, refl, refl);
        received = ([], ap all_received posts ∙ sym (append-nil (all_received a.posts)));
        seen = rw pacer (le_refl a.pacer.seen);
        clock = rw took.clock (le_refl a.lane.clock);
        alone = λ from first y. record {
          count = y.count;
          at = took.clock ∙ y.at;
          alone = rw (took.taken, took.core, asks) (alone_takes rules from y.count a.lane.clock first a.lane.taken (values.core a.lane.core) (all_sent a.asks) p y.at y.alone);
        };
      }

    -- it ticked, and the asks were sent
    module _ (laws : Laws rules owns) (a b : CoreActor Core) (h : IsReady rules owns values end a) (below : a.lane.clock < end)
        (core : values.core b.lane.core ≡ (tick_of rules a.lane.clock (values.core a.lane.core)).0) (clock : b.lane.clock ≡ a.lane.clock + 1) (none : b.lane.asks.items ≡ [])
        (waits : b.lane.posts.items ≡ a.lane.posts.items) (taken : b.lane.taken ≡ a.lane.taken) (watch : b.watch ≡ a.watch)
        (sent : all_sent b.asks ≡ all_sent a.asks ++ (tick_of rules a.lane.clock (values.core a.lane.core)).1) (posts : b.posts ≡ a.posts)
        (paced : b.pacer.clock ≡ a.pacer.clock + 1) (same : SamePacer a.pacer b.pacer) where
      -- the lane, with all that was sent as its asks
      abbrev sent_lane : LaneValue Inner
      sent_lane = record { core = values.core a.lane.core; clock = a.lane.clock; asks = all_sent a.asks; posts = []; taken = [] }

      abbrev ticked_lane : LaneValue Inner
      ticked_lane =
          let now = tick_of rules a.lane.clock (values.core a.lane.core) in
          record { core = now.0; clock = a.lane.clock + 1; asks = all_sent a.asks ++ now.1; posts = []; taken = [] }

      open_before : IsLaneOf rules owns end a.pacer.number sent_lane
      open_before = record { core = h.core; asks = h.sent; rising = h.rising; earlier = h.earlier; posts = tt; clock = h.below }

      open_after : IsLaneOf rules owns end a.pacer.number ticked_lane
      open_after = subst (IsLaneOf rules owns end a.pacer.number) (ticked_below rules end sent_lane below) (lane_open_ticked rules owns laws end a.pacer.number sent_lane h.top open_before)

      ready_ticked : IsReady rules owns values end b
      ready_ticked = record {
        core = rw (same.1, core) open_after.core;
        paced = clock ∙ ap (λ n. n + 1) h.paced ∙ sym paced;
        below = rw clock open_after.clock;
        top = h.top;
        no_asks = none;
        sent = rw (same.1, sent) open_after.asks;
        rising = rw sent open_after.rising;
        earlier = rw (clock, sent) open_after.earlier;
        received = ap all_received posts ∙ h.received ∙ ap₂ (λ xs ps. map (λ (x : Taken). x.post) xs ++ ps) (sym taken) (sym waits);
        proper = rw (same.1, taken) h.proper;
        watched = rw (same.1, taken, watch) h.watched;
      }

      pub went_ticked : SameSender a.asks b.asks → b.pacer.seen ≡ a.pacer.seen → Went rules owns values end a b
      went_ticked sender seen = record {
        ready = ready_ticked;
        asks = sender;
        posts = rw posts (same_receiver a.posts);
        pacer = same;
        received = ([], ap all_received posts ∙ sym (append-nil (all_received a.posts)));
        seen = rw seen (le_refl a.pacer.seen);
        clock = omega arith;
        alone = λ from first x. record {
          count = suc x.count;
          at = let at = x.at in omega arith;
          alone = rw (taken, core, sent) (alone_ticks rules from x.count a.lane.clock first a.lane.taken (values.core a.lane.core) (all_sent a.asks) x.at x.alone);
        };
      }

pub unheld_more : (must : ℕ → ℕ → Bool) (n from clock next : ℕ) → ((t : ℕ) → from ≤ t → t < clock → IsFalse (must n t)) → next ≡ clock + 1 → IsFalse (must n clock) → (t : ℕ) → from ≤ t → t < next → IsFalse (must n t)
unheld_more must n from clock next h e here t lo hi =
    ⊎_elim (λ (q : t ≡ clock). subst (λ (k : ℕ). IsFalse (must n k)) (sym q) here) (λ (q : t ≡ clock → ⊥). h t lo (omega arith)) (cases_eq t clock)

pub at_number : (may : ℕ → ℕ → Bool) (n m k : ℕ) → n ≡ m → IsTrue (may n k) → IsTrue (may m k)
at_number may n m k e h = subst (λ (j : ℕ). IsTrue (may j k)) e h

not_true : (x b : Bool) → (IsTrue x → IsTrue b) → b ≡ false → IsFalse x
not_true true b h e = let yes = h refl in cc
not_true false b h e = refl

-- the gate didn't hold the core
pub unheld_here : (must : ℕ → ℕ → Bool) (n m k l : ℕ) (held : Bool) → n ≡ m → k ≡ l → (IsTrue (must n k) → IsTrue held) → held ≡ false → IsFalse (must m l)
unheld_here must n m k l held e f h off = subst (λ (j : ℕ). IsFalse (must j l)) e (subst (λ (j : ℕ). IsFalse (must n j)) f (not_true (must n k) held h off))

-- the core was at the slack
pub not_below : (b : Bool) (m n : ℕ) → (m < n → IsTrue b) → b ≡ false → n ≤ m
not_below b m n h off = elim (nat_lt m n) as (λ d. nat_lt m n ≡ d → n ≤ m) [ true ↦ λ t. let yes = h (ltb-true m n t) in cc | false ↦ λ t. ltb-false m n t ] refl
