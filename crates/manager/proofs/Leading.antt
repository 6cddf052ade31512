-- The steps of the manager's leg.
use Rattle.std.proofs.Common.{◌≡◌, ◌∙◌, ℕ, ◌≤◌, List, [], ◌++◌, length, map, max, refl, sym, ap, subst, arith, append_assoc, append-nil}
use Rattle.std.specs.List.{AllByRecursion as Each}
use Rattle.std.proofs.lemmas.List.{length-map}
use Rattle.core_gate.specs.Seats.{SameOverseer}
use Rattle.core_gate.specs.Steps.{IsLeast}
use Rattle.core_gate.specs.declared.overseers.Overseer.{Overseer}
use Rattle.slack_base.specs.declared.messages.Ask.{Ask}
use Rattle.slack_base.specs.declared.messages.Post.{Post}
use Rattle.stamp_queue.specs.Rings.{all_sent}
use Rattle.target_law.specs.Cycles.{through}
use Rattle.target_law.specs.Drifts.{posts_to}
use Rattle.target_law.specs.Laws.{Laws}
use Rattle.target_law.specs.Numbered.{AllNumbered}
use Rattle.target_law.specs.Proper.{IsProperAsk, IsProperPost, IsChanOf}
use Rattle.target_law.specs.Rules.{Rules, Owns}
use Rattle.target_law.specs.Values.{Values}
use Rattle.target_law.proofs.Lists.{each_append, each_weaker}
use Rattle.target_law.proofs.Serving.{length-through, through_are, through_posts}
use Rattle.violation_watch.specs.Watching.{SawServed}
use Rattle.violation_watch.proofs.Channels.{through_chans-append, through_posts-append}
use Rattle.drive_script.proofs.Underway.{through_clashes-append}
use Rattle.manager.specs.declared.managers.Manager.{Manager}
use Rattle.manager.specs.Leads.{SameDesk, Received, Led}
use Rattle.manager.specs.Managers.{IsReadyDesk, IsReadyManager, IsThrough}
use Rattle.manager.specs.Places.{EachPlace, PlacePairs}
use Rattle.manager.proofs.Desks.{DeskMoved, ready_moved, posts_moved, desks_same, desks_received, sender_then, receiver_then}
use Rattle.manager.proofs.Places.{pairs_then, pairs_weaker, each_along}

overseer_same : (o : Overseer) → SameOverseer o o
overseer_same o = (refl, refl, refl)

pub overseer_kept : (o p : Overseer) → p ≡ o → SameOverseer o p
overseer_kept o p e = subst (λ q. SameOverseer o q) (sym e) (overseer_same o)

pub never_falls : (o p : Overseer) → p ≡ o → o.global ≤ p.global
never_falls o p e = let same : p.global ≡ o.global = ap (λ q. q.global) e in omega (arith, same)

-- global time once it was raised
pub raised_overseer : (first looked served last : Overseer) → looked.global ≡ first.global → served ≡ looked → last.lows.items ≡ served.lows.items
    → ((n : ℕ) × IsLeast n served.lows.items × (last.global ≡ max served.global n))
    → (n : ℕ) × IsLeast n last.lows.items × (last.global ≡ max first.global n)
raised_overseer first looked served last global same lows h =
    (h.0, subst (IsLeast h.0) (sym lows) h.1, h.2 ∙ ap (λ m. max m h.0) (ap (λ o. o.global) same ∙ global))

overseer_then : (o p q : Overseer) → SameOverseer o p → SameOverseer p q → SameOverseer o q
overseer_then o p q h k = (k.0 ∙ h.0, k.1 ∙ h.1, k.2 ∙ h.2)

module _ {Inner Chan : Type 0} (rules : Rules Inner Chan) (owns : Owns Inner Chan) (laws : Laws rules owns) {Core D : Type 0} (values : Values Core D Inner Chan) where
  -- the posts of proper asks
  pub own_posts : (chans : List Chan) (asks : List Ask) → AllNumbered (IsChanOf rules owns) 0 chans → Each (IsProperAsk rules) asks → Each (IsProperPost rules) (through rules chans asks).posts
  own_posts chans asks are proper = through_posts rules owns laws (λ _. Unit {0}) (IsProperPost rules) (λ y p _ of. of.proper) chans asks are proper (each_weaker (λ _ _. tt) asks proper)

  -- a manager, and what it is once these asks were served and these posts sent
  pub record Moved (asks : List Ask) (posts : List Post) (a b : Manager D) : Type 0 where
    pub proper : Each (IsProperAsk rules) asks
    pub posts_are : posts ≡ (through rules (map values.chan a.chans.items) asks).posts
    pub served : b.served ≡ a.served ++ asks
    pub chans : map values.chan b.chans.items ≡ (through rules (map values.chan a.chans.items) asks).chans
    pub clashes : b.clashes ≡ a.clashes ++ (through rules (map values.chan a.chans.items) asks).clashes
    pub watch : SawServed rules b.clashes b.served b.watch
    pub desks : PlacePairs (DeskMoved asks posts) a.desks.items b.desks.items
    pub overseer : SameOverseer a.overseer b.overseer
    pub rises : a.overseer.global ≤ b.overseer.global

  module _ (asks : List Ask) (posts : List Post) (a b : Manager D) (ready : IsReadyManager rules owns values a) (m : Moved asks posts a b) where
    proper_posts : Each (IsProperPost rules) posts
    proper_posts = subst (Each (IsProperPost rules)) (sym m.posts_are) (own_posts (map values.chan a.chans.items) asks ready.chans m.proper)

    moved_ready : IsReadyManager rules owns values b
    moved_ready = record {
      chan_count =
          sym (length-map b.chans.items values.chan) ∙ ap length m.chans
          ∙ length-through rules (map values.chan a.chans.items) asks ∙ length-map a.chans.items values.chan ∙ ready.chan_count;
      chans = subst (AllNumbered (IsChanOf rules owns) 0) (sym m.chans) (through_are rules owns laws (map values.chan a.chans.items) asks ready.chans m.proper);
      served = subst (Each (IsProperAsk rules)) (sym m.served) (each_append (IsProperAsk rules) a.served asks ready.served m.proper);
      desk_count = m.desks.count ∙ ready.desk_count;
      clock_count = m.overseer.1 ∙ ready.clock_count;
      desks =
          subst (λ served. EachPlace (IsReadyDesk rules served) b.desks.items) (sym m.served)
          (each_along (IsReadyDesk rules a.served) (DeskMoved asks posts) (IsReadyDesk rules (a.served ++ asks)) a.desks.items b.desks.items
          (λ c d e h k. ready_moved rules c a.served asks posts d e proper_posts h k) ready.desks m.desks);
      watch = m.watch;
    }

    moved_through : (start : List Chan) → IsThrough rules values start a → IsThrough rules values start b
    moved_through start is =
        let out = through rules start a.served in
        let whole = through rules start b.served in
        let now : map values.chan a.chans.items ≡ out.chans = is.chans in
        let sent : whole.posts ≡ out.posts ++ posts =
        ap (λ l. (through rules start l).posts) m.served ∙ through_posts-append rules start a.served asks
        ∙ ap (λ l. out.posts ++ l) (ap (λ l. (through rules l asks).posts) (sym now) ∙ sym m.posts_are) in
        record {
          chans = m.chans ∙ ap (λ l. (through rules l asks).chans) now ∙ sym (through_chans-append rules start a.served asks) ∙ ap (λ l. (through rules start l).chans) (sym m.served);
          clashes =
              m.clashes ∙ ap (λ l. l ++ (through rules (map values.chan a.chans.items) asks).clashes) is.clashes
              ∙ ap (λ l. out.clashes ++ (through rules l asks).clashes) now
              ∙ sym (through_clashes-append rules start a.served asks) ∙ ap (λ l. (through rules start l).clashes) (sym m.served);
          desks =
              each_along (λ c d. all_sent d.posts ≡ posts_to c out.posts) (DeskMoved asks posts) (λ c d. all_sent d.posts ≡ posts_to c whole.posts) a.desks.items b.desks.items
              (λ c d e h k. posts_moved rules c out.posts posts asks d e h k ∙ ap (posts_to c) (sym sent)) is.desks m.desks;
        }

    pub led_moved : Led rules owns values a b
    led_moved = record {
      ready = moved_ready;
      desks = pairs_weaker (DeskMoved asks posts) SameDesk a.desks.items b.desks.items (λ c d e k. k.same) m.desks;
      overseer = m.overseer;
      rises = m.rises;
      served = (asks, m.served);
      through = moved_through;
    }

  pub led_then : (a b c : Manager D) → Led rules owns values a b → Led rules owns values b c → Led rules owns values a c
  led_then a b c h k = record {
    ready = k.ready;
    desks =
        pairs_then SameDesk SameDesk SameDesk a.desks.items b.desks.items c.desks.items
        (λ i d e f s t. record { asks = receiver_then d.asks e.asks f.asks s.asks t.asks; posts = sender_then d.posts e.posts f.posts s.posts t.posts }) h.desks k.desks;
    overseer = overseer_then a.overseer b.overseer c.overseer h.overseer k.overseer;
    rises = let low = h.rises in let high = k.rises in omega arith;
    served = (h.served.0 ++ k.served.0, k.served.1 ∙ ap (λ l. l ++ k.served.0) h.served.1 ∙ append_assoc a.served h.served.0 k.served.0);
    through = λ start is. k.through start (h.through start is);
  }

  -- nothing was served: asks may have been received, and the overseer gone on
  pub led_between : (a b : Manager D) → IsReadyManager rules owns values a → b.chans ≡ a.chans → b.served ≡ a.served → b.clashes ≡ a.clashes → b.watch ≡ a.watch
      → PlacePairs (DeskMoved [] []) a.desks.items b.desks.items → SameOverseer a.overseer b.overseer → a.overseer.global ≤ b.overseer.global → Led rules owns values a b
  led_between a b ready chans served clashes watch desks overseer rises =
      led_moved [] [] a b ready (record {
        proper = tt;
        posts_are = refl;
        served = served ∙ sym (append-nil a.served);
        chans = ap (λ v. map values.chan v.items) chans;
        clashes = clashes ∙ sym (append-nil a.clashes);
        watch = subst (λ hs. SawServed rules hs b.served b.watch) (sym clashes) (subst (λ xs. SawServed rules a.clashes xs b.watch) (sym served) (subst (SawServed rules a.clashes a.served) (sym watch) ready.watch));
        desks = desks;
        overseer = overseer;
        rises = rises;
      })

  pub led_begins : (a : Manager D) → IsReadyManager rules owns values a → Led rules owns values a a
  led_begins a ready = led_between a a ready refl refl refl refl (desks_same a.desks.items) (overseer_same a.overseer) (let same : a.overseer.global ≤ a.overseer.global = omega arith in same)

  pub led_received : (a b : Manager D) → IsReadyManager rules owns values a → b.chans ≡ a.chans → b.served ≡ a.served → b.clashes ≡ a.clashes → b.watch ≡ a.watch
      → PlacePairs Received a.desks.items b.desks.items → SameOverseer a.overseer b.overseer → b.overseer.global ≡ a.overseer.global → Led rules owns values a b
  led_received a b ready chans served clashes watch desks overseer global =
      led_between a b ready chans served clashes watch (desks_received a.desks.items b.desks.items desks) overseer (omega (arith, global))

  pub led_raised : (a b : Manager D) → IsReadyManager rules owns values a → b.chans ≡ a.chans → b.served ≡ a.served → b.clashes ≡ a.clashes → b.watch ≡ a.watch → b.desks ≡ a.desks
      → SameOverseer a.overseer b.overseer → a.overseer.global ≤ b.overseer.global → Led rules owns values a b
  led_raised a b ready chans served clashes watch desks overseer rises =
      led_between a b ready chans served clashes watch (subst (λ v. PlacePairs (DeskMoved [] []) a.desks.items v.items) (sym desks) (desks_same a.desks.items)) overseer rises
