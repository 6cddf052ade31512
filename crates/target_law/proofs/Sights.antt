-- What is so with marks in sight is so without them, and a drift leaves each mark.
use Rattle.std.proofs.Common.{◌≡◌, ◌∙◌, ℕ, ◌+◌, zero, suc, List, [], ◌∷◌, ◌++◌, Option, None, map, length, refl, sym, ap}
use Rattle.std.specs.List.{All}
use Rattle.std.proofs.lemmas.List.Elements.{All-nil, All-cons, All-head, All-tail, All-map}
use Rattle.slack_base.specs.declared.histories.Drift.{Drift}
use Rattle.slack_base.specs.declared.histories.Taken.{Taken}
use Rattle.slack_base.specs.declared.messages.Ask.{Ask}
use Rattle.slack_base.specs.declared.messages.Post.{Post}
use Rattle.slack_base.specs.declared.stamps.Id.{Id}
use Rattle.slack_base.specs.Inboxes.{CoreValue}
use Rattle.slack_base.specs.Marks.{Marked}
use Rattle.target_law.specs.Alone.{Alone, begins, takes, ticks}
use Rattle.target_law.specs.Cycles.{StateValue, Through, changed_at, seen_at, through}
use Rattle.target_law.specs.Drifts.{IsDrift, IsPartOf, posts_to}
use Rattle.target_law.specs.InSight.{MarkedInner, SameMarksInSight, bare, bare_state, rules_in_sight, owns_in_sight, values_in_sight}
use Rattle.target_law.specs.Numbered.{AllNumbered, AllNumberedTriples}
use Rattle.target_law.specs.Proper.{IsProper, IsCoreOf, IsChanOf}
use Rattle.target_law.specs.Rules.{Rules, Owns}
use Rattle.target_law.specs.Values.{Values}

map_twice : {X Y Z : Type 0} (f : X → Y) (g : Y → Z) (h : X → Z) → ((x : X) → g (f x) ≡ h x) → (xs : List X) → map g (map f xs) ≡ map h xs
map_twice f g h same [] = refl
map_twice f g h same (x ∷ xs) = ap (λ y. y ∷ map g (map f xs)) (same x) ∙ ap (λ ys. h x ∷ ys) (map_twice f g h same xs)

-- the item at a place changed, seen through a view that knows the change, and through one that sees none
changed_view : {X Y : Type 0} (view : X → Y) (f : X → X) (g : Y → Y) → ((x : X) → view (f x) ≡ g (view x)) → (n : ℕ) (xs : List X) → map view (changed_at n f xs) ≡ changed_at n g (map view xs)
changed_view view f g same n [] = refl
changed_view view f g same zero (x ∷ xs) = ap (λ y. y ∷ map view xs) (same x)
changed_view view f g same (suc n) (x ∷ xs) = ap (λ ys. view x ∷ ys) (changed_view view f g same n xs)

unchanged_view : {X Y : Type 0} (view : X → Y) (f : X → X) → ((x : X) → view (f x) ≡ view x) → (n : ℕ) (xs : List X) → map view (changed_at n f xs) ≡ map view xs
unchanged_view view f same n [] = refl
unchanged_view view f same zero (x ∷ xs) = ap (λ y. y ∷ map view xs) (same x)
unchanged_view view f same (suc n) (x ∷ xs) = ap (λ ys. view x ∷ ys) (unchanged_view view f same n xs)

seen_view : {X Y Z : Type 0} (view : X → Y) (g : Y → Z) (past : Z) (n : ℕ) (xs : List X) → seen_at n (λ x. g (view x)) past xs ≡ seen_at n g past (map view xs)
seen_view view g past n [] = refl
seen_view view g past zero (x ∷ xs) = refl
seen_view view g past (suc n) (x ∷ xs) = seen_view view g past n xs

length_view : {X Y : Type 0} (view : X → Y) (xs : List X) → length (map view xs) ≡ length xs
length_view view [] = refl
length_view view (x ∷ xs) = ap suc (length_view view xs)

module _ {Inner Chan : Type 0} (rules : Rules Inner Chan) where
  abbrev sight : Rules (MarkedInner Inner) (Marked Chan)
  sight = rules_in_sight rules

  abbrev values : List (Marked Chan) → List Chan
  values chans = map (λ chan. chan.value) chans

  abbrev saved : List (Marked Chan) → List (Option Chan)
  saved chans = map (λ chan. chan.saved) chans

  alone_bare : (core : CoreValue (MarkedInner Inner)) (a k : ℕ) (taken : List Taken) (now : CoreValue (MarkedInner Inner)) (asks : List Ask)
      → Alone sight core a k taken now asks → Alone rules (bare core) a k taken (bare now) asks
  alone_bare core a k taken now asks begins = begins
  alone_bare core a k taken now asks (takes p h) = takes p (alone_bare core a k _ _ _ h)
  alone_bare core a k taken now asks (ticks h) = ticks (alone_bare core a _ taken _ _ h)

  alone_saved : (core : CoreValue (MarkedInner Inner)) (a k : ℕ) (taken : List Taken) (now : CoreValue (MarkedInner Inner)) (asks : List Ask)
      → Alone sight core a k taken now asks → now.inner.saved ≡ core.inner.saved
  alone_saved core a k taken now asks begins = refl
  alone_saved core a k taken now asks (takes p h) = alone_saved core a k _ _ _ h
  alone_saved core a k taken now asks (ticks h) = alone_saved core a _ taken _ _ h

  -- channels after some asks, without their marks
  abbrev bare_through : Through (Marked Chan) → Through Chan
  bare_through t = record { chans = values t.chans; posts = t.posts; clashes = t.clashes }

  abbrev with_first : List Post → Option Id → Through Chan → Through Chan
  with_first posts clash t = record { chans = t.chans; posts = posts ++ t.posts; clashes = clash ∷ t.clashes }

  pub through_bare : (chans : List (Marked Chan)) (asks : List Ask) → bare_through (through sight chans asks) ≡ through rules (values chans) asks
  through_bare chans [] = refl
  through_bare chans (x ∷ asks) =
      let place = rules.channel_of x in
      let then = changed_at place (λ chan. (sight.serve chan x).0) chans in
      let posts = seen_at place (λ chan. (sight.serve chan x).1) [] chans in
      let clash = seen_at place (λ chan. sight.clash chan x) None chans in
      ap (with_first posts clash) (through_bare then asks)
      ∙ ap (λ cs. with_first posts clash (through rules cs asks)) (changed_view (λ (chan : Marked Chan). chan.value) (λ chan. (sight.serve chan x).0) (λ chan. (rules.serve chan x).0) (λ chan. refl) place chans)
      ∙ ap (λ ps. with_first ps clash (through rules (changed_at place (λ chan. (rules.serve chan x).0) (values chans)) asks)) (seen_view (λ (chan : Marked Chan). chan.value) (λ chan. (rules.serve chan x).1) [] place chans)
      ∙ ap (λ c. with_first (seen_at place (λ chan. (rules.serve chan x).1) [] (values chans)) c (through rules (changed_at place (λ chan. (rules.serve chan x).0) (values chans)) asks)) (seen_view (λ (chan : Marked Chan). chan.value) (λ chan. rules.clash chan x) None place chans)

  through_saved : (chans : List (Marked Chan)) (asks : List Ask) → saved (through sight chans asks).chans ≡ saved chans
  through_saved chans [] = refl
  through_saved chans (x ∷ asks) =
      let place = rules.channel_of x in
      through_saved (changed_at place (λ chan. (sight.serve chan x).0) chans) asks
      ∙ unchanged_view (λ (chan : Marked Chan). chan.saved) (λ chan. (sight.serve chan x).0) (λ chan. refl) place chans

  module _ (s : StateValue (MarkedInner Inner) (Marked Chan)) (d : Drift) where
    part_bare : (c : ℕ) (core : CoreValue (MarkedInner Inner)) (taken : List Taken) (after : CoreValue (MarkedInner Inner))
        → IsPartOf sight s d c core taken after → IsPartOf rules (bare_state s) d c (bare core) taken (bare after)
    part_bare c core taken after is = record {
      alone = alone_bare core s.clock d.len taken after _ is.alone;
      received = is.received ∙ ap (λ (t : Through Chan). posts_to c t.posts) (through_bare s.chans d.served);
      proper = λ i x l. let to = is.proper i x l in record { proper = to.proper; to = to.to };
    }

    parts_bare : (n : ℕ) (cores : List (CoreValue (MarkedInner Inner))) (sent : List (List Taken)) (after : List (CoreValue (MarkedInner Inner)))
        → AllNumberedTriples (IsPartOf sight s d) n cores sent after → AllNumberedTriples (IsPartOf rules (bare_state s) d) n (map bare cores) sent (map bare after)
    parts_bare n [] [] [] h = tt
    parts_bare n [] [] (z ∷ after) h = absurd h
    parts_bare n [] (y ∷ sent) after h = absurd h
    parts_bare n (x ∷ cores) [] after h = absurd h
    parts_bare n (x ∷ cores) (y ∷ sent) [] h = absurd h
    parts_bare n (x ∷ cores) (y ∷ sent) (z ∷ after) h = (part_bare n x y z h.0, parts_bare (n + 1) cores sent after h.1)

    parts_saved : (n : ℕ) (cores : List (CoreValue (MarkedInner Inner))) (sent : List (List Taken)) (after : List (CoreValue (MarkedInner Inner)))
        → AllNumberedTriples (IsPartOf sight s d) n cores sent after → map (λ core. core.inner.saved) after ≡ map (λ core. core.inner.saved) cores
    parts_saved n [] [] [] h = refl
    parts_saved n [] [] (z ∷ after) h = absurd h
    parts_saved n [] (y ∷ sent) after h = absurd h
    parts_saved n (x ∷ cores) [] after h = absurd h
    parts_saved n (x ∷ cores) (y ∷ sent) [] h = absurd h
    parts_saved n (x ∷ cores) (y ∷ sent) (z ∷ after) h =
        let mark = alone_saved x s.clock d.len y z _ h.0.alone in
        ap (λ m. m ∷ map (λ core. core.inner.saved) after) mark ∙ ap (λ ms. x.inner.saved ∷ ms) (parts_saved (n + 1) cores sent after h.1)

  -- a drift of the machine with marks in sight is one of the machine
  pub drift_bare : (s : StateValue (MarkedInner Inner) (Marked Chan)) (d : Drift) (e : StateValue (MarkedInner Inner) (Marked Chan)) → IsDrift sight s d e → IsDrift rules (bare_state s) d (bare_state e)
  drift_bare s d e is = record {
    start = is.start;
    proper = is.proper;
    clashes = is.clashes ∙ ap (λ (t : Through Chan). t.clashes) (through_bare s.chans d.served);
    cores = parts_bare s d 0 s.cores d.sent e.cores is.cores;
    clock = is.clock;
    chans =
        let out = (through sight s.chans d.served).chans in
        ap values is.chans
        ∙ map_twice sight.close (λ (chan : Marked Chan). chan.value) (λ chan. rules.close chan.value) (λ chan. refl) out
        ∙ sym (map_twice (λ (chan : Marked Chan). chan.value) rules.close (λ chan. rules.close chan.value) (λ chan. refl) out)
        ∙ ap (λ (t : Through Chan). map rules.close t.chans) (through_bare s.chans d.served);
  }

  -- and it leaves each mark
  pub drift_saved : (s : StateValue (MarkedInner Inner) (Marked Chan)) (d : Drift) (e : StateValue (MarkedInner Inner) (Marked Chan)) → IsDrift sight s d e → SameMarksInSight s e
  drift_saved s d e is = record {
    cores = parts_saved s d 0 s.cores d.sent e.cores is.cores;
    chans =
        let out = (through sight s.chans d.served).chans in
        ap saved is.chans ∙ map_twice sight.close (λ (chan : Marked Chan). chan.saved) (λ chan. chan.saved) (λ chan. refl) out ∙ through_saved s.chans d.served;
  }

  module _ (owns : Owns Inner Chan) where
    cores_in_sight : (n : ℕ) (cores : List (CoreValue (MarkedInner Inner))) → AllNumbered (IsCoreOf rules owns) n (map bare cores) → AllNumbered (IsCoreOf sight (owns_in_sight owns)) n cores
    cores_in_sight n [] h = tt
    cores_in_sight n (x ∷ cores) h = (
      record { own = h.0.own; number = h.0.number; inbox = λ i p l. let to = h.0.inbox i p l in record { proper = to.proper; to = to.to } },
      cores_in_sight (n + 1) cores h.1,
    )

    cores_bare : (n : ℕ) (cores : List (CoreValue (MarkedInner Inner))) → AllNumbered (IsCoreOf sight (owns_in_sight owns)) n cores → AllNumbered (IsCoreOf rules owns) n (map bare cores)
    cores_bare n [] h = tt
    cores_bare n (x ∷ cores) h = (
      record { own = h.0.own; number = h.0.number; inbox = λ i p l. let to = h.0.inbox i p l in record { proper = to.proper; to = to.to } },
      cores_bare (n + 1) cores h.1,
    )

    chans_in_sight : (n : ℕ) (chans : List (Marked Chan)) → AllNumbered (IsChanOf rules owns) n (values chans) → AllNumbered (IsChanOf sight (owns_in_sight owns)) n chans
    chans_in_sight n [] h = tt
    chans_in_sight n (x ∷ chans) h = (record { own = h.0.own; number = h.0.number }, chans_in_sight (n + 1) chans h.1)

    chans_bare : (n : ℕ) (chans : List (Marked Chan)) → AllNumbered (IsChanOf sight (owns_in_sight owns)) n chans → AllNumbered (IsChanOf rules owns) n (values chans)
    chans_bare n [] h = tt
    chans_bare n (x ∷ chans) h = (record { own = h.0.own; number = h.0.number }, chans_bare (n + 1) chans h.1)

    closed_in_sight : (chans : List (Marked Chan)) → All (λ chan. rules.close chan ≡ chan) (values chans) → All (λ chan. sight.close chan ≡ chan) chans
    closed_in_sight [] h = All-nil (λ chan. sight.close chan ≡ chan)
    closed_in_sight (x ∷ chans) h = All-cons (λ chan. sight.close chan ≡ chan) x chans (ap (λ v. record { value = v; saved = x.saved }) (All-head (λ chan. rules.close chan ≡ chan) x.value (values chans) h)) (closed_in_sight chans (All-tail (λ chan. rules.close chan ≡ chan) x.value (values chans) h))

    closed_bare : (chans : List (Marked Chan)) → All (λ chan. sight.close chan ≡ chan) chans → All (λ chan. rules.close chan ≡ chan) (values chans)
    closed_bare chans h = All-map (λ chan. rules.close chan ≡ chan) (λ (chan : Marked Chan). chan.value) chans (λ i d l. ap (λ (chan : Marked Chan). chan.value) (h i d l))

    pub proper_in_sight : (s : StateValue (MarkedInner Inner) (Marked Chan)) → IsProper rules owns (bare_state s) → IsProper sight (owns_in_sight owns) s
    proper_in_sight s is = record {
      clock = is.clock;
      core_count = sym (length_view bare s.cores) ∙ is.core_count;
      cores = cores_in_sight 0 s.cores is.cores;
      chan_count = sym (length_view (λ (chan : Marked Chan). chan.value) s.chans) ∙ is.chan_count;
      chans = chans_in_sight 0 s.chans is.chans;
      closed = closed_in_sight s.chans is.closed;
    }

    pub proper_bare : (s : StateValue (MarkedInner Inner) (Marked Chan)) → IsProper sight (owns_in_sight owns) s → IsProper rules owns (bare_state s)
    proper_bare s is = record {
      clock = is.clock;
      core_count = length_view bare s.cores ∙ is.core_count;
      cores = cores_bare 0 s.cores is.cores;
      chan_count = length_view (λ (chan : Marked Chan). chan.value) s.chans ∙ is.chan_count;
      chans = chans_bare 0 s.chans is.chans;
      closed = closed_bare s.chans is.closed;
    }

module _ {Core D Inner Chan : Type 0} (values : Values Core D Inner Chan) where
  -- stored cores and channels, their marks in sight and then left out, are seen as they are
  pub bare_is : (clock : ℕ) (cores : List Core) (chans : List D)
      → bare_state (record { clock = clock; cores = map (values_in_sight values).core cores; chans = map (values_in_sight values).chan chans })
      ≡ record { clock = clock; cores = map values.core cores; chans = map values.chan chans }
  bare_is clock cores chans =
      let by_cores : List (CoreValue Inner) → StateValue Inner Chan = λ cs. record { clock = clock; cores = cs; chans = map (λ (chan : Marked Chan). chan.value) (map (values_in_sight values).chan chans) } in
      let by_chans : List Chan → StateValue Inner Chan = λ cs. record { clock = clock; cores = map values.core cores; chans = cs } in
      ap by_cores (map_twice (values_in_sight values).core bare values.core (λ core. refl) cores)
      ∙ ap by_chans (map_twice (values_in_sight values).chan (λ (chan : Marked Chan). chan.value) values.chan (λ chan. refl) chans)

  pub core_marks : (cores : List Core) → map (λ core. core.inner.saved) (map (values_in_sight values).core cores) ≡ map values.saved_core cores
  core_marks cores = map_twice (values_in_sight values).core (λ core. core.inner.saved) values.saved_core (λ core. refl) cores

  pub chan_marks : (chans : List D) → map (λ chan. chan.saved) (map (values_in_sight values).chan chans) ≡ map values.saved_chan chans
  chan_marks chans = map_twice (values_in_sight values).chan (λ chan. chan.saved) values.saved_chan (λ chan. refl) chans
