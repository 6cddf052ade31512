-- What legs leave can be settled, and the monitors see the rest.
use Rattle.std.proofs.Common.{◌≡◌, ◌∙◌, ℕ, ◌+◌, List, [], ◌∷◌, ◌++◌, map, Some, length, take, slice_get, refl, sym, ap, subst, arith}
use Rattle.std.specs.List.{AllZip, AllByRecursion as Each}
use Rattle.std.proofs.lemmas.List.{length-map, length-append}
use Rattle.std.proofs.lemmas.Option.{slice_get_within}
use Rattle.std.proofs.lemmas.Slice.Zip.{AllZip-long}
use Rattle.core_actor.specs.Actors.{Ran}
use Rattle.core_actor.specs.declared.actors.CoreActor.{CoreActor}
use Rattle.drive_script.proofs.Places.{Along}
use Rattle.drive_script.specs.declared.lanes.Lane.{Lane}
use Rattle.drive_script.specs.declared.worlds.World.{World}
use Rattle.drive_script.specs.Open.{IsAskOf}
use Rattle.drive_script.specs.Scripts.{history}
use Rattle.drive_script.specs.Views.{lane_of, world_of}
use Rattle.io_edge.specs.Holds.{Holds}
use Rattle.manager.specs.declared.managers.Manager.{Manager}
use Rattle.manager.specs.Leads.{Led}
use Rattle.manager.specs.Places.{PlacePairs}
use Rattle.settle.specs.Gathers.{AreLinked}
use Rattle.settle.specs.Parts.{IsReadyPart, IsPartUnderway, AreUnderway}
use Rattle.settle.specs.Settles.{gathered_world, FinishesFrom}
use Rattle.settle.proofs.Growing.{TookMore, HasGrown, grown_same, finishing_grows, take_first}
use Rattle.settle.proofs.Lists.{get_in, get_map, numbered_of}
use Rattle.slack_base.specs.declared.histories.Violation.{Violation}
use Rattle.stamp_queue.specs.declared.receivers.Receiver.{Receiver}
use Rattle.stamp_queue.specs.declared.senders.Sender.{Sender}
use Rattle.stamp_queue.specs.Rings.{all_sent, SameSender, SameReceiver, AreEnds}
use Rattle.target_law.specs.Cycles.{StateValue}
use Rattle.target_law.specs.Numbered.{AllNumbered}
use Rattle.target_law.specs.Proper.{IsCoreOf}
use Rattle.target_law.specs.Rules.{Rules, Owns}
use Rattle.target_law.specs.Values.{Values}
use Rattle.violation_watch.specs.Scan.{all_serve_entries, all_take_entries, scan_of}
use Rattle.violation_watch.specs.Watching.{SawServed, SawTaken}
use Rattle.violation_watch.specs.declared.watches.Watch.{Watch}
use Rattle.violation_watch.proofs.Scanning.{saw_served}
use Rattle.drift_run.specs.Parts.{part_of, watch_of, HasSeenFirst}
use Rattle.drift_run.specs.Rigs.{AreReady, HaveCome}
use Rattle.drift_run.proofs.Zips.{zip_at, along_at, along_count, seen_in}

ends_kept : {X : Type 0} (s t : Sender X) (a b : Receiver X) → AreEnds s a → SameSender s t → SameReceiver a b → AreEnds t b
ends_kept s t a b e h k = (k.0.0 ∙ (e.0 ∙ sym h.0.0), k.0.1 ∙ (e.1 ∙ sym h.0.1), k.0.2 ∙ (e.2 ∙ sym h.0.2), k.0.3 ∙ (e.3 ∙ sym h.0.3))

module _ {Inner Chan : Type 0} (rules : Rules Inner Chan) (owns : Owns Inner Chan) {Core D : Type 0} (values : Values Core D Inner Chan) (holds : Holds) (end : ℕ) where
  module _ (m n : Manager D) (us vs : List (CoreActor Core)) (ready : AreReady rules owns values end m us) (led : Led rules owns values m n) (ran : AllZip (Ran rules owns values holds end) us vs) where
    long : length vs ≡ length us
    long = AllZip-long (Ran rules owns values holds end) us vs ran

    -- the actor before its leg
    pub before_leg : (i : ℕ) (b : CoreActor Core) → slice_get vs i ≡ Some b → (a : CoreActor Core) × (slice_get us i ≡ Some a) × Ran rules owns values holds end a b
    before_leg i b at =
        let w = slice_get_within vs i b at in
        let l = long in
        let a = get_in us i (omega (arith, w, l)) in
        (a.0, a.1, zip_at (Ran rules owns values holds end) us vs i a.0 b ran a.1 at)

    pub number_at : (i : ℕ) (b : CoreActor Core) → slice_get vs i ≡ Some b → b.pacer.number ≡ i
    number_at i b at =
        let x = before_leg i b at in
        let w = slice_get_within us i x.0 x.1 in
        let c = ready.rings.count in
        let d = get_in m.desks.items i (omega (arith, w, c)) in
        x.2.went.pacer.1 ∙ (ready.rings.at i d.0 x.0 d.1 x.1).number

    ready_part : (i : ℕ) (b : CoreActor Core) → slice_get vs i ≡ Some b → IsReadyPart rules owns values end i (part_of b)
    ready_part i b at =
        let r = (before_leg i b at).2.went.ready in
        let e = number_at i b at in
        record {
          own = subst (λ k. IsCoreOf rules owns k (values.core b.lane.core)) e r.core;
          sent = subst (λ k. Each (IsAskOf rules k) (all_sent b.asks)) e r.sent;
          rising = r.rising;
          earlier = r.earlier;
          received = r.received;
          below = r.below;
        }

    pub parts_ready : AllNumbered (IsReadyPart rules owns values end) 0 (map part_of vs)
    parts_ready = numbered_of (IsReadyPart rules owns values end) 0 (map part_of vs) (λ i p at.
        let x = seen_in part_of vs i p at in
        let e : i ≡ 0 + i = omega arith in
        subst (λ k. IsReadyPart rules owns values end k p) e (subst (IsReadyPart rules owns values end i) x.2 (ready_part i x.0 x.1)))

    pub parts_linked : PlacePairs (λ _. AreLinked) n.desks.items (map part_of vs)
    parts_linked = record {
      count = length-map vs part_of ∙ long ∙ ready.rings.count ∙ sym led.desks.count;
      at = λ i e p ee ep.
          let x = seen_in part_of vs i p ep in
          let y = before_leg i x.0 x.1 in
          let w = slice_get_within us i y.0 y.1 in
          let c = ready.rings.count in
          let d = get_in m.desks.items i (omega (arith, w, c)) in
          let joined = ready.rings.at i d.0 y.0 d.1 y.1 in
          let same = led.desks.at i d.0 e d.1 ee in
          subst (AreLinked e) x.2 (record {
            asks = ends_kept y.0.asks x.0.asks d.0.asks e.asks joined.asks y.2.went.asks same.asks;
            posts = ends_kept d.0.posts e.posts y.0.posts x.0.posts joined.posts same.posts y.2.went.posts;
          });
    }

    -- from whatever state they came
    pub underway : (s : StateValue Inner Chan) → HaveCome rules values s m us → AreUnderway rules values s n (map part_of vs)
    underway s come = record {
      manager = led.through s.chans come.manager;
      cores = record {
        count = length-map vs part_of ∙ long ∙ come.cores.count;
        at = λ i first p ef ep.
            let x = seen_in part_of vs i p ep in
            let y = before_leg i x.0 x.1 in
            let z = y.2.went.alone s.clock first (come.cores.at i first y.0 ef y.1) in
            subst (IsPartUnderway rules values s.clock i first) x.2 (record { count = z.count; at = z.at; alone = z.alone });
      };
    }

    -- each monitor saw what its core took in its leg, with which finishing began
    pub seen_first : (lanes : List (Lane Core)) (world : World Core D) → lanes ≡ world.lanes.items → FinishesFrom rules values end n (map part_of vs) (world_of values world) → PlacePairs (HasSeenFirst end) lanes (map watch_of vs)
    seen_first lanes world is f =
        let grown : HasGrown rules (gathered_world values end n f.lanes) (world_of values world) = finishing_grows rules (gathered_world values end n f.lanes) f.finishes (grown_same rules (gathered_world values end n f.lanes)) in
        let along = subst (λ (ls : List (Lane Core)). Along TookMore 0 (map (lane_of values) f.lanes) (map (lane_of values) ls)) (sym is) grown.lanes in
        let c1 = along_count TookMore 0 (map (lane_of values) f.lanes) (map (lane_of values) lanes) along in
        let c2 : length (map (lane_of values) f.lanes) ≡ length f.lanes = length-map f.lanes (lane_of values) in
        let c3 : length (map (lane_of values) lanes) ≡ length lanes = length-map lanes (lane_of values) in
        let c4 : length (map part_of vs) ≡ length vs = length-map vs part_of in
        let c5 : length (map watch_of vs) ≡ length vs = length-map vs watch_of in
        let c6 = f.gathered.count in
        record {
          count = omega (arith, c1, c2, c3, c4, c5, c6);
          at = λ i lane w el ew.
              let x = seen_in watch_of vs i w ew in
              let v = x.0 in
              let inside = slice_get_within vs i v x.1 in
              let lane0 = get_in f.lanes i (omega (arith, inside, c4, c6)) in
              let c7 = parts_linked.count in
              let desk = get_in n.desks.items i (omega (arith, inside, c4, c7)) in
              let gathered = f.gathered.at i desk.0 (part_of v) lane0.0 desk.1 (get_map part_of vs i v x.1) lane0.1 in
              let grew = along_at TookMore 0 (map (lane_of values) f.lanes) (map (lane_of values) lanes) i (lane_of values lane0.0) (lane_of values lane) along (get_map (lane_of values) f.lanes i lane0.0 lane0.1) (get_map (lane_of values) lanes i lane el) in
              let whole : lane.taken ≡ v.lane.taken ++ grew.0 = grew.1 ∙ ap (λ l. l ++ grew.0) gathered.taken in
              let longer : length lane.taken ≡ length v.lane.taken + length grew.0 = ap length whole ∙ length-append v.lane.taken grew.0 in
              subst (HasSeenFirst end i lane) x.2 (record {
                core = number_at i v x.1;
                within = omega (arith, longer);
                saw =
                    subst (λ l. SawTaken i end l v.watch) (sym (ap (take (length v.lane.taken)) whole ∙ take_first v.lane.taken grew.0))
                    (subst (λ k. SawTaken k end v.lane.taken v.watch) (number_at i v x.1) (before_leg i v x.1).2.went.ready.watched);
              });
        }

module _ {Inner Chan : Type 0} (rules : Rules Inner Chan) {Core D : Type 0} (values : Values Core D Inner Chan) where
  map_taken : (lanes : List (Lane Core)) → map (λ lane. lane.taken) lanes ≡ map (λ lane. lane.taken) (map (lane_of values) lanes)
  map_taken [] = refl
  map_taken (lane ∷ lanes) = ap (λ l. lane.taken ∷ l) (map_taken lanes)

  -- what all monitors found is the scan of the drift
  pub seen_all : (end start k : ℕ) (found before : List Violation) (watch : Watch) (world : World Core D) (lanes : List (Lane Core)) → end ≡ start + k → SawServed rules world.clashes world.served watch → before ≡ watch.found
      → lanes ≡ world.lanes.items → found ≡ before ++ all_take_entries 0 end (map (λ lane. lane.taken) lanes) → found ≡ scan_of rules (history start k (world_of values world))
  seen_all end start k found before watch world lanes is saw first same all =
      all
      ∙ ap (λ l. l ++ all_take_entries 0 end (map (λ (lane : Lane Core). lane.taken) lanes)) (first ∙ (saw_served rules world.clashes world.served watch saw).found)
      ∙ ap (λ e. all_serve_entries rules [] world.clashes world.served ++ all_take_entries 0 e (map (λ (lane : Lane Core). lane.taken) lanes)) is
      ∙ ap (λ l. all_serve_entries rules [] world.clashes world.served ++ all_take_entries 0 (start + k) l) (ap (map (λ (lane : Lane Core). lane.taken)) same ∙ map_taken world.lanes.items)
