-- Where nothing waits and every core is at the end clock, the world's history is that of a drift to its end.
use Rattle.std.proofs.Common.{◌≡◌, ◌∙◌, ℕ, ◌+◌, ◌≤◌, ◌==◌, suc, List, [], ◌∷◌, ◌++◌, map, cond, nat_lt, IsTrue, Option, Some, None, refl, sym, ap, subst, arith}
use Rattle.std.specs.List.{AllByRecursion as Each}
use Rattle.std.proofs.lemmas.Bool.{lt-ltb}
use Rattle.std.proofs.lemmas.List.{append-nil}
use Rattle.std.proofs.lemmas.List.Elements.{All-from_recursion}
use Rattle.std.proofs.lemmas.Option.{none-some}
use Rattle.slack_base.specs.declared.bounds.TheConstants.{TOP}
use Rattle.slack_base.specs.declared.histories.Drift.{Drift}
use Rattle.slack_base.specs.declared.histories.Taken.{Taken}
use Rattle.slack_base.specs.declared.messages.Ask.{Ask}
use Rattle.slack_base.specs.declared.messages.Post.{Post}
use Rattle.slack_base.specs.declared.steps.Step.{Step}
use Rattle.slack_base.specs.declared.steps.Step.TheVariants.{Tick, Serve, Take}
use Rattle.slack_base.specs.Inboxes.{CoreValue}
use Rattle.target_law.specs.Alone.{Alone}
use Rattle.target_law.specs.Cycles.{StateValue, through}
use Rattle.target_law.specs.Drifts.{IsPartOf, IsDrift, asks_by, posts_to}
use Rattle.target_law.specs.Laws.{Laws}
use Rattle.target_law.specs.Numbered.{AllNumbered, AllNumberedTriples}
use Rattle.target_law.specs.Proper.{IsProperPost, IsPostTo, IsProper}
use Rattle.target_law.specs.Rules.{Rules, Owns}
use Rattle.target_law.proofs.Lists.{each_weaker, each_passes}
use Rattle.target_law.proofs.Numbers.{eq_of}
use Rattle.target_law.proofs.Serving.{through_posts}
use Rattle.violation_watch.proofs.Lists.{each_both, each_filter, less_or}
use Rattle.drive_script.specs.Open.{IsLaneOf, IsOpen}
use Rattle.drive_script.specs.Scripts.{opened, history, closed, IsScript}
use Rattle.drive_script.specs.Finishing.{Finishes, done, goes, IsFinished, first_id}
use Rattle.drive_script.specs.Worlds.{LaneValue, WorldValue, oldest_ask, stepped, stepped_all, world_serving}
use Rattle.drive_script.proofs.Opened.{open_stepped, open_opened}
use Rattle.drive_script.proofs.Places.{Along, none_waits}
use Rattle.drive_script.proofs.Underway.{IsLaneUnderway, IsUnderway, underway_opened, underway_stepped}

no_ask : (asks : List Ask) → first_id asks ≡ None → asks ≡ []
no_ask [] e = refl
no_ask (x ∷ asks) e = absurd (none-some _ (sym e))

at_end : (clock end : ℕ) → clock ≤ end → cond (nat_lt clock end) (Some clock) None ≡ None → clock ≡ end
at_end clock end low e = less_or clock end (λ l. absurd (none-some clock (sym e ∙ ap (λ b. cond b (Some clock) None) (lt-ltb clock end l)))) (λ l. omega arith)

each_of_map : {X Y : Type 0} (P : Y → Type 0) (f : X → Y) (xs : List X) → Each P (map f xs) → Each (λ x. P (f x)) xs
each_of_map P f [] h = tt
each_of_map P f (x ∷ xs) h = (h.0, each_of_map P f xs h.1)

module _ {Inner Chan : Type 0} (rules : Rules Inner Chan) (owns : Owns Inner Chan) (laws : Laws rules owns) (s : StateValue Inner Chan) (k : ℕ) (start : IsProper rules owns s) where
  module _ (w : WorldValue Inner Chan) (end : w.end ≡ s.clock + k) (here : IsOpen rules owns w) (is : IsUnderway rules s w) where
    abbrev sent : List Post
    sent = (through rules s.chans w.served).posts

    sent_proper : Each (IsProperPost rules) sent
    sent_proper = through_posts rules owns laws (λ _. Unit {0}) (IsProperPost rules) (λ y p _ of. of.proper) s.chans w.served start.chans is.proper (each_weaker (λ _ _. tt) w.served is.proper)

    to_core : (c : ℕ) → Each (IsPostTo rules c) (posts_to c sent)
    to_core c =
        each_weaker (λ p both. record { proper = both.0; to = eq_of p.to c both.1 }) (posts_to c sent)
        (each_both (λ p. IsTrue (rules.is_proper_post p)) (λ p. IsTrue (p.to == c)) (posts_to c sent)
        (each_filter (λ p. p.to == c) (λ p. IsTrue (rules.is_proper_post p)) sent sent_proper) (each_passes (λ p. p.to == c) sent))

    part : (c : ℕ) (first : CoreValue Inner) (lane : LaneValue Inner) → lane.clock ≡ w.end → lane.asks ≡ [] → lane.posts ≡ []
        → IsLaneUnderway rules s.clock w.served sent c first lane → IsPartOf rules s (history s.clock k w) c first lane.taken lane.core
    part c first lane clock asks posts h =
        let at = h.at in
        let whole : h.count ≡ k = omega arith in
        let mine : map (λ x. x.post) lane.taken ≡ posts_to c sent =
        sym (append-nil (map (λ (x : Taken). x.post) lane.taken)) ∙ ap (λ ps. map (λ (x : Taken). x.post) lane.taken ++ ps) (sym posts) ∙ h.received in
        record {
          alone =
              subst (λ n. Alone rules first s.clock n lane.taken lane.core (asks_by c w.served)) whole
              (subst (Alone rules first s.clock h.count lane.taken lane.core) (ap (λ xs. asks_by c w.served ++ xs) asks ∙ append-nil (asks_by c w.served)) h.alone);
          received = mine;
          proper = All-from_recursion (λ x. IsPostTo rules c x.post) lane.taken (each_of_map (IsPostTo rules c) (λ (x : Taken). x.post) lane.taken (subst (Each (IsPostTo rules c)) (sym mine) (to_core c)));
        }

    parts : (n : ℕ) (firsts : List (CoreValue Inner)) (lanes : List (LaneValue Inner)) → IsFinished w.end lanes → AllNumbered (IsLaneOf rules owns w.end) n lanes
        → Along (IsLaneUnderway rules s.clock w.served sent) n firsts lanes
        → AllNumberedTriples (IsPartOf rules s (history s.clock k w)) n firsts (map (λ lane. lane.taken) lanes) (map (λ lane. lane.core) lanes)
    parts n [] [] fin are h = tt
    parts n [] (lane ∷ lanes) fin are h = absurd h
    parts n (first ∷ firsts) [] fin are h = absurd h
    parts n (first ∷ firsts) (lane ∷ lanes) fin are h = (
      part n first lane (at_end lane.clock w.end are.0.clock (fin.ended 0)) (no_ask lane.asks (fin.served 0)) (none_waits lane.posts (fin.taken 0)) h.0,
      parts (n + 1) firsts lanes (record { served = λ j. fin.served (suc j); taken = λ j. fin.taken (suc j); ended = λ j. fin.ended (suc j) }) are.1 h.1,
    )

    pub drifts : IsFinished w.end w.lanes → IsDrift rules s (history s.clock k w) (closed rules w)
    drifts fin = record {
      start = refl;
      proper = All-from_recursion _ w.served is.proper;
      clashes = is.clashes;
      cores = parts 0 s.cores w.lanes fin here.lanes is.lanes;
      clock = end;
      chans = ap (map rules.close) is.chans;
    }

  end_stepped : (x : Step) (w : WorldValue Inner Chan) → (stepped rules x w).end ≡ w.end
  unfolding stepped
  end_stepped (Tick c) w = refl
  end_stepped (Serve c) w = end_serving c (oldest_ask w.lanes c) w where
    end_serving : (c : ℕ) (o : Option Ask) (w : WorldValue Inner Chan) → (world_serving rules c o w).end ≡ w.end
    end_serving c None w = refl
    end_serving c (Some x) w = refl
  end_stepped (Take c) w = refl

  pub finish_drifts : {w e : WorldValue Inner Chan} → Finishes rules w e → w.end ≡ s.clock + k → IsOpen rules owns w → IsUnderway rules s w → IsDrift rules s (history s.clock k e) (closed rules e)
  finish_drifts (done {w = w} fin) end here is = drifts w end here is fin
  finish_drifts (goes {w = w} {e = e} x next rest) end here is =
      finish_drifts rest (end_stepped x w ∙ end) (open_stepped rules owns laws x w here) (underway_stepped rules owns laws s x w here is)

  steps_drift : (steps : List Step) (w e : WorldValue Inner Chan) → w.end ≡ s.clock + k → IsOpen rules owns w → IsUnderway rules s w → Finishes rules (stepped_all rules steps w) e
      → IsDrift rules s (history s.clock k e) (closed rules e)
  steps_drift [] w e end here is f = finish_drifts f end here is
  steps_drift (x ∷ steps) w e end here is f =
      steps_drift steps (stepped rules x w) e (end_stepped x w ∙ end) (open_stepped rules owns laws x w here) (underway_stepped rules owns laws s x w here is) f

  -- the drift of a given interleaving is one from the state to its end
  pub script_drifts : (steps : List Step) (d : Drift) (e : StateValue Inner Chan) → s.clock + k ≤ TOP → IsScript rules s k steps d e → IsDrift rules s d e
  script_drifts steps d e top is =
      subst (λ x. IsDrift rules s x e) (sym is.drift)
      (subst (λ x. IsDrift rules s (history s.clock k is.world) x) (sym is.end)
      (steps_drift steps (opened s k) is.world refl (open_opened rules owns laws s k start top) (underway_opened rules s k) is.finishes))
