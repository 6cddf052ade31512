-- Completeness of the monitors: a drift of which they record nothing does what it does in the order of ids, and that is lockstep.
use Rattle.std.proofs.Common.{◌≡◌, ◌≢◌, ◌∙◌, ℕ, ◌+◌, ◌≤◌, ◌==◌, List, [], ◌∷◌, length, map, false, refl, sym, ap, subst}
use Rattle.std.specs.List.{AllByRecursion as Each}
use Rattle.std.specs.List.Sorted.{IsPermutation}
use Rattle.std.proofs.lemmas.List.Elements.{recursion_from_All}
use Rattle.slack_base.specs.declared.bounds.TheConstants.{TOP}
use Rattle.slack_base.specs.declared.histories.Drift.{Drift}
use Rattle.slack_base.specs.declared.histories.Taken.{Taken}
use Rattle.slack_base.specs.declared.messages.Ask.{Ask}
use Rattle.slack_base.specs.Inboxes.{CoreValue}
use Rattle.slack_base.specs.Messages.{id_of}
use Rattle.slack_base.specs.Stamps.{is_above}
use Rattle.target_law.specs.Cycles.{StateValue, through, delivered, lockstep, asks}
use Rattle.target_law.specs.Drifts.{asks_by, IsPartOf, IsDrift}
use Rattle.target_law.specs.Laws.{Laws}
use Rattle.target_law.specs.Numbered.{AllNumbered, AllNumberedTriples}
use Rattle.target_law.specs.Proper.{IsProperAsk, IsCoreOf, IsChanOf, IsProper}
use Rattle.target_law.specs.Rules.{Rules, Owns}
use Rattle.target_law.specs.Served.{AreRising}
use Rattle.target_law.proofs.Delivery.{length-delivered}
use Rattle.target_law.proofs.Lists.{each_weaker, numbered_weaker}
use Rattle.target_law.proofs.Lockstep.{state_path}
use Rattle.violation_watch.specs.Complete.{AllComplete}
use Rattle.violation_watch.specs.Scan.{all_serve_entries, all_take_entries}
use Rattle.violation_watch.proofs.ByCore.{distinct_by_core}
use Rattle.violation_watch.proofs.Calm.{AreCalm, above_other, calm_all, calm_same}
use Rattle.violation_watch.proofs.Channels.{HasSameEffect, AreDistinct, same_chans, same_posts, through_apart, asks_on}
use Rattle.violation_watch.proofs.Cores.{run_rises}
use Rattle.violation_watch.proofs.Delivery.{given, delivered-given, delivered_perm}
use Rattle.violation_watch.proofs.Early.{run}
use Rattle.violation_watch.proofs.Kept.{delivered_are, posts_proper}
use Rattle.violation_watch.proofs.Lists.{each_both, numbered_both, numbered_map_from, map_from, map-map_from}
use Rattle.violation_watch.proofs.Parts.{core_run}
use Rattle.violation_watch.proofs.Peel.{AreRuns, IsSteps, ran, closed_all, asks_among, steps, sorted_from_rising}
use Rattle.violation_watch.proofs.Perms.{perm_pairwise, perm_is, perm_each}
use Rattle.violation_watch.proofs.Quiet.{nothing_left, nothing_right, AreCalmTakes, all_calm}
use Rattle.violation_watch.proofs.Sorting.{AreSorted, sorted, sorted_sorted, sorted_perm, filter-sorted}

rising_of : (asks : List Ask) → AreSorted asks → AreDistinct asks → AreRising asks
rising_of [] h k = tt
rising_of (x ∷ asks) h k =
    (each_weaker (λ y both. above_other y x both.0 both.1) asks (each_both (λ y. is_above (id_of x) (id_of y) ≡ false) (λ y. id_of x ≢ id_of y) asks h.0 k.0), rising_of asks h.1 k.1)

module _ {Inner Chan : Type 0} (rules : Rules Inner Chan) where
  -- what the parts of the cores say, where no late post harms
  module _ (owns : Owns Inner Chan) (laws : Laws rules owns)
      (s : StateValue Inner Chan) (d : Drift) (is : IsProper rules owns s) (e : StateValue Inner Chan) (drift : IsDrift rules s d e) (low : s.clock + d.len ≤ TOP) where
    core_runs : (n : ℕ) (cores : List (CoreValue Inner)) (sent : List (List Taken)) (ends : List (CoreValue Inner))
        → AllNumbered (IsCoreOf rules owns) n cores → AllNumberedTriples (IsPartOf rules s d) n cores sent ends → Each (AreCalmTakes (s.clock + d.len)) sent
        → AllNumbered (λ c core. asks_by c d.served ≡ (run rules s.clock d.len (given (through rules s.chans d.served).posts c core)).1) n cores
    core_runs n [] sent ends are parts calm = tt
    core_runs n (core ∷ cores) [] ends are parts calm = absurd parts
    core_runs n (core ∷ cores) (taken ∷ sent) [] are parts calm = absurd parts
    core_runs n (core ∷ cores) (taken ∷ sent) (end ∷ ends) are parts calm =
        ((core_run rules owns laws s d is e drift low n core taken end are.0 parts.0 calm.0).asks, core_runs (n + 1) cores sent ends are.1 parts.1 calm.1)

    core_ends : (n : ℕ) (cores : List (CoreValue Inner)) (sent : List (List Taken)) (ends : List (CoreValue Inner))
        → AllNumbered (IsCoreOf rules owns) n cores → AllNumberedTriples (IsPartOf rules s d) n cores sent ends → Each (AreCalmTakes (s.clock + d.len)) sent
        → ends ≡ map_from (λ c core. (run rules s.clock d.len (given (through rules s.chans d.served).posts c core)).0) n cores
    core_ends n [] [] [] are parts calm = refl
    core_ends n [] [] (end ∷ ends) are parts calm = absurd parts
    core_ends n [] (taken ∷ sent) ends are parts calm = absurd parts
    core_ends n (core ∷ cores) [] ends are parts calm = absurd parts
    core_ends n (core ∷ cores) (taken ∷ sent) [] are parts calm = absurd parts
    core_ends n (core ∷ cores) (taken ∷ sent) (end ∷ ends) are parts calm =
        ap (λ core. core ∷ ends) (core_run rules owns laws s d is e drift low n core taken end are.0 parts.0 calm.0).value
        ∙ ap (λ rest. (run rules s.clock d.len (given (through rules s.chans d.served).posts n core)).0 ∷ rest) (core_ends (n + 1) cores sent ends are.1 parts.1 calm.1)

    -- the same of the cores to which all posts were delivered
    pub drift_runs : Each (AreCalmTakes (s.clock + d.len)) d.sent → AreRuns rules s.clock d.len d.served (delivered s.cores (through rules s.chans d.served).posts)
    drift_runs calm =
        subst (AreRuns rules s.clock d.len d.served) (sym (delivered-given s.cores (through rules s.chans d.served).posts))
        (numbered_map_from (λ c core. asks_by c d.served ≡ (run rules s.clock d.len core).1) (given (through rules s.chans d.served).posts) 0 s.cores (core_runs 0 s.cores d.sent e.cores is.cores drift.cores calm))

    pub drift_ends : Each (AreCalmTakes (s.clock + d.len)) d.sent → e.cores ≡ map (λ core. (run rules s.clock d.len core).0) (delivered s.cores (through rules s.chans d.served).posts)
    drift_ends calm =
        core_ends 0 s.cores d.sent e.cores is.cores drift.cores calm
        ∙ sym (map-map_from (λ core. (run rules s.clock d.len core).0) (given (through rules s.chans d.served).posts) 0 s.cores)
        ∙ ap (map (λ core. (run rules s.clock d.len core).0)) (sym (delivered-given s.cores (through rules s.chans d.served).posts))

  module _ (owns : Owns Inner Chan) (laws : Laws rules owns) where
    -- the history in the order of ids, where each channel has the same of it
    module _ (s : StateValue Inner Chan) (k : ℕ) (served : List Ask) (is : IsProper rules owns s) (low : s.clock + k ≤ TOP)
        (proper : Each (IsProperAsk rules) served) (runs : AreRuns rules s.clock k served (delivered s.cores (through rules s.chans served).posts)) where
      rising : AllNumbered (λ c core. AreRising (asks_by c served)) 0 (delivered s.cores (through rules s.chans served).posts)
      rising =
          let cores = delivered s.cores (through rules s.chans served).posts in
          numbered_weaker (λ c core both. subst AreRising (sym both.0) (run_rises rules owns laws s.clock k c core low both.1)) 0 cores
          (numbered_both (λ c core. asks_by c served ≡ (run rules s.clock k core).1) (IsCoreOf rules owns) 0 cores runs
          (delivered_are rules owns laws s.cores (through rules s.chans served).posts (posts_proper rules owns laws s.chans served is.chans proper) is.cores))

      pub distinct : AreDistinct served
      distinct =
          let cores = delivered s.cores (through rules s.chans served).posts in
          distinct_by_core 0 cores served (asks_among rules owns laws served (length cores) (length-delivered s.cores (through rules s.chans served).posts ∙ is.core_count) proper) rising

      module _ (same : AllNumbered (HasSameEffect rules served (sorted served)) 0 s.chans) where
        same_cores : delivered s.cores (through rules s.chans served).posts ≡ delivered s.cores (through rules s.chans (sorted served)).posts
        same_cores =
            delivered_perm s.cores (through rules s.chans served).posts (through rules s.chans (sorted served)).posts (same_posts rules s.chans served (sorted served) same)
            (through_apart rules owns laws s.chans served is.chans proper distinct)

        sorted_runs : AreRuns rules s.clock k (sorted served) (delivered s.cores (through rules s.chans (sorted served)).posts)
        sorted_runs =
            let cores = delivered s.cores (through rules s.chans served).posts in
            subst (AreRuns rules s.clock k (sorted served)) same_cores
            (numbered_weaker (λ c core both. filter-sorted (λ x. (id_of x).core == c) served (sorted_from_rising (asks_by c served) both.1) ∙ both.0) 0 cores
            (numbered_both (λ c core. asks_by c served ≡ (run rules s.clock k core).1) (λ c core. AreRising (asks_by c served)) 0 cores runs rising))

        sorted_ran : ran rules s k served ≡ ran rules s k (sorted served)
        sorted_ran =
            state_path (ran rules s k served) (ran rules s k (sorted served)) refl
            (ap (map (λ core. (run rules s.clock k core).0)) same_cores)
            (ap (map rules.close) (same_chans rules s.chans served (sorted served) same))

        sorted_steps : IsSteps rules s k (sorted served)
        sorted_steps =
            steps rules owns laws k s (sorted served) is low
            (rising_of (sorted served) (sorted_sorted served) (perm_pairwise (λ x y d e. d (sym e)) (sorted_perm served) distinct))
            (perm_each (IsProperAsk rules) (sorted_perm served) proper) sorted_runs

        pub same_end : ran rules s k served ≡ lockstep rules s k
        same_end = sorted_ran ∙ sorted_steps.end

        pub same_asks : IsPermutation served (asks rules s k)
        same_asks = subst (IsPermutation served) sorted_steps.asks (perm_is (sorted_perm served))

    pub complete : AllComplete rules owns
    complete s d e is drift top quiet =
        let asks_quiet = nothing_left (all_serve_entries rules [] d.clashes d.served) (all_take_entries 0 (d.start + d.len) d.sent) quiet in
        let takes_quiet = nothing_right (all_serve_entries rules [] d.clashes d.served) (all_take_entries 0 (d.start + d.len) d.sent) quiet in
        let takes : Each (AreCalmTakes (s.clock + d.len)) d.sent =
        subst (λ t. Each (AreCalmTakes (t + d.len)) d.sent) drift.start (all_calm 0 (d.start + d.len) d.sent takes_quiet) in
        let calm : AllNumbered (λ j chan. AreCalm rules chan [] (asks_on rules j d.served)) 0 s.chans =
        calm_all rules s.chans [] d.served (subst (λ clashes. all_serve_entries rules [] clashes d.served ≡ []) drift.clashes asks_quiet) in
        let proper = recursion_from_All (IsProperAsk rules) d.served drift.proper in
        let clock : e.clock ≡ s.clock + d.len = drift.clock ∙ ap (λ t. t + d.len) drift.start in
        let low : s.clock + d.len ≤ TOP = subst (λ t. t ≤ TOP) clock top in
        let runs = drift_runs owns laws s d is e drift low takes in
        let apart = distinct s d.len d.served is low proper runs in
        let same : AllNumbered (HasSameEffect rules d.served (sorted d.served)) 0 s.chans =
        numbered_weaker (λ j chan h. calm_same rules owns laws j chan d.served h.0.0 h.0.1 proper apart h.1) 0 s.chans
        (numbered_both (λ j chan. IsChanOf rules owns j chan × (rules.close chan ≡ chan)) (λ j chan. AreCalm rules chan [] (asks_on rules j d.served)) 0 s.chans
        (numbered_both (IsChanOf rules owns) (λ j chan. rules.close chan ≡ chan) 0 s.chans is.chans (closed_all rules owns laws s is)) calm) in
        record {
          end = state_path e (ran rules s d.len d.served) clock (drift_ends owns laws s d is e drift low takes) drift.chans ∙ same_end s d.len d.served is low proper runs same;
          served = same_asks s d.len d.served is low proper runs same;
        }
