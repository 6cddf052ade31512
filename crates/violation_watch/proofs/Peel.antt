-- A history in the order of ids is lockstep's: one cycle after another is peeled off.
use Rattle.std.proofs.Common.{◌≡◌, ◌∙◌, ℕ, ◌+◌, ◌<◌, ◌≤◌, ◌==◌, zero, suc, List, [], ◌++◌, length, map, Bool, false, not, true, refl, sym, ap, subst, arith, add-zero}
use Rattle.std.specs.List.{filter, AllByRecursion as Each}
use Rattle.std.proofs.lemmas.List.Elements.{recursion_from_All}
use Rattle.std.proofs.lemmas.Bool.{false≢true}
use Rattle.std.proofs.lemmas.List.{map-id}
use Rattle.std.proofs.lemmas.Simd.{map-map}
use Rattle.slack_base.specs.declared.bounds.TheConstants.{TOP}
use Rattle.slack_base.specs.declared.messages.Ask.{Ask}
use Rattle.slack_base.specs.Inboxes.{CoreValue}
use Rattle.slack_base.specs.Messages.{id_of}
use Rattle.slack_base.specs.Stamps.{is_above}
use Rattle.target_law.specs.Cycles.{StateValue, tick_of, ticked, asks_of, through, delivered, cycle, lockstep, asks}
use Rattle.target_law.specs.Drifts.{asks_by}
use Rattle.target_law.specs.Laws.{Laws}
use Rattle.target_law.specs.Numbered.{AllNumbered}
use Rattle.target_law.specs.Proper.{IsProperAsk, IsCoreOf, IsChanOf, IsProper}
use Rattle.target_law.specs.Rules.{Rules, Owns}
use Rattle.target_law.specs.Served.{AreRising, Pairwise}
use Rattle.target_law.proofs.Delivery.{length-delivered}
use Rattle.target_law.proofs.Kept.{cycle_proper}
use Rattle.target_law.proofs.Lists.{each_weaker, each_passes, numbered_weaker, numbered_map}
use Rattle.target_law.proofs.Lockstep.{state_path, lockstep-first, lockstep_none, asks-first, asks-none}
use Rattle.target_law.proofs.Numbers.{eq_is_not, eq_of, not_eq_of}
use Rattle.target_law.proofs.Serving.{through_are}
use Rattle.violation_watch.proofs.ByCore.{IsAmong, each_by_core, none_by_core, cycle_by_core}
use Rattle.violation_watch.proofs.Channels.{asks_on, IsApart, AreDistinct, chan_of, through_chans-append, through_posts-append, through-chans, through_apart}
use Rattle.violation_watch.proofs.Closing.{IsAfter, IsAlike, alike_closed, same_closed, same_closed_posts}
use Rattle.violation_watch.proofs.Cores.{is_at, run_asks, first_asks, later_asks}
use Rattle.violation_watch.proofs.Delivery.{delivered-append, delivered_perm}
use Rattle.violation_watch.proofs.Early.{run}
use Rattle.violation_watch.proofs.Ids.{cycle_rises, above_back, above_self}
use Rattle.violation_watch.proofs.Kept.{ticked-delivered, asks_of-delivered, delivered_are, posts_proper, posts_later}
use Rattle.violation_watch.proofs.Lists.{pairwise_across, numbered_of_each, numbered_unmap_from, map_kept, pairwise_weaker, pairwise_filter, pairwise_with, each_filter, numbered_both, filter_parts, filter_swap}
use Rattle.violation_watch.proofs.Sorting.{AreSorted}

pub sorted_from_rising : (asks : List Ask) → AreRising asks → AreSorted asks
sorted_from_rising asks h = pairwise_weaker (λ x y above. above_back (id_of y) (id_of x) above) asks h

distinct_from_rising : (asks : List Ask) → AreRising asks → AreDistinct asks
distinct_from_rising asks h =
    pairwise_weaker (λ x y above same. false≢true (sym (above_self (id_of x)) ∙ ap (λ i. is_above i (id_of x)) same ∙ above)) asks h

module _ {Inner Chan : Type 0} (rules : Rules Inner Chan) where
  -- each core by itself sends its own asks of these
  abbrev pub AreRuns : (t k : ℕ) → List Ask → List (CoreValue Inner) → Type 0
  AreRuns t k served cores = AllNumbered (λ c core. asks_by c served ≡ (run rules t k core).1) 0 cores

  -- the state after k cycles in which these asks were served, all their posts delivered at the start
  abbrev pub ran : StateValue Inner Chan → ℕ → List Ask → StateValue Inner Chan
  ran s k served = record {
    clock = s.clock + k;
    cores = map (λ core. (run rules s.clock k core).0) (delivered s.cores (through rules s.chans served).posts);
    chans = map rules.close (through rules s.chans served).chans;
  }

  pub record IsSteps (s : StateValue Inner Chan) (k : ℕ) (served : List Ask) : Type 0 where
    pub asks : served ≡ asks rules s k
    pub end : ran s k served ≡ lockstep rules s k

  module _ (owns : Owns Inner Chan) (laws : Laws rules owns) where
    pub closed_all : (s : StateValue Inner Chan) → IsProper rules owns s → AllNumbered (λ j chan. rules.close chan ≡ chan) 0 s.chans
    closed_all s is = numbered_of_each (λ chan. rules.close chan ≡ chan) 0 s.chans (recursion_from_All (λ chan. rules.close chan ≡ chan) s.chans is.closed)

    -- a proper ask is of one of the cores
    pub asks_among : (asks : List Ask) (many : ℕ) → many ≡ rules.cores → Each (IsProperAsk rules) asks → Each (IsAmong 0 many) asks
    asks_among asks many e proper = each_weaker (λ x is. let low = (laws.asks x is).core in (omega arith, omega arith)) asks proper

    steps_none : (s : StateValue Inner Chan) (served : List Ask) → AllNumbered (λ j chan. rules.close chan ≡ chan) 0 s.chans → served ≡ [] → IsSteps s zero served
    steps_none s served closed left = record {
      asks = left ∙ sym (asks-none rules s);
      end = ap (ran s zero) left
          ∙ state_path (ran s zero []) s (add-zero s.clock) (map-id s.cores) (map_kept rules.close 0 s.chans closed)
          ∙ lockstep_none rules s zero refl;
    }

    -- the channels after the first asks, closed and not, serve the others alike
    all_alike : (chans : List Chan) (first rest : List Ask) → AllNumbered (IsChanOf rules owns) 0 chans → AllNumbered (λ j chan. rules.close chan ≡ chan) 0 chans
        → Each (IsProperAsk rules) first → AreRising first → Each (IsProperAsk rules) rest → AreRising rest → Each (IsAfter first) rest
        → AllNumbered (λ j chan. IsAlike rules (chan_of rules first j chan) (rules.close (chan_of rules first j chan)) (asks_on rules j rest)) 0 chans
    all_alike chans first rest are closed proper rising proper' rising' after =
        let left = numbered_unmap_from (IsChanOf rules owns) (chan_of rules first) 0 chans
        (subst (AllNumbered (IsChanOf rules owns) 0) (through-chans rules chans first) (through_are rules owns laws chans first are proper)) in
        numbered_weaker (λ j chan h. alike_closed rules owns laws j chan first rest h.0.0 h.0.1 proper rising proper' rising' after h.1) 0 chans
        (numbered_both (λ j chan. IsChanOf rules owns j chan × (rules.close chan ≡ chan)) (λ j chan. IsChanOf rules owns j (chan_of rules first j chan)) 0 chans
        (numbered_both (IsChanOf rules owns) (λ j chan. rules.close chan ≡ chan) 0 chans are closed) left)

    -- the asks of the first cycle are gone, and the rest is of the state after it
    module _ (s : StateValue Inner Chan) (k : ℕ) (served rest : List Ask) (first : served ≡ asks_of rules s.clock s.cores ++ rest) (late : Each (λ p. s.clock < p.due) (through rules s.chans served).posts)
        (alike : AllNumbered (λ j chan. IsAlike rules (chan_of rules (asks_of rules s.clock s.cores) j chan) (rules.close (chan_of rules (asks_of rules s.clock s.cores) j chan)) (asks_on rules j rest)) 0 s.chans)
        (apart : Pairwise IsApart (through rules (through rules s.chans (asks_of rules s.clock s.cores)).chans rest).posts) where
      all_chans : (through rules s.chans served).chans ≡ (through rules (through rules s.chans (asks_of rules s.clock s.cores)).chans rest).chans
      all_chans = ap (λ asks. (through rules s.chans asks).chans) first ∙ through_chans-append rules s.chans (asks_of rules s.clock s.cores) rest

      all_posts : (through rules s.chans served).posts ≡ (through rules s.chans (asks_of rules s.clock s.cores)).posts ++ (through rules (through rules s.chans (asks_of rules s.clock s.cores)).chans rest).posts
      all_posts = ap (λ asks. (through rules s.chans asks).posts) first ∙ through_posts-append rules s.chans (asks_of rules s.clock s.cores) rest

      next_cores : ticked rules s.clock (delivered s.cores (through rules s.chans served).posts) ≡ delivered (cycle rules s).cores (through rules (cycle rules s).chans rest).posts
      unfolding cycle
      next_cores =
          ticked-delivered rules s.clock s.cores (through rules s.chans served).posts late
          ∙ ap (delivered (ticked rules s.clock s.cores)) all_posts
          ∙ delivered-append (ticked rules s.clock s.cores) (through rules s.chans (asks_of rules s.clock s.cores)).posts (through rules (through rules s.chans (asks_of rules s.clock s.cores)).chans rest).posts
          ∙ delivered_perm (cycle rules s).cores (through rules (through rules s.chans (asks_of rules s.clock s.cores)).chans rest).posts (through rules (cycle rules s).chans rest).posts
          (same_closed_posts rules s.chans (asks_of rules s.clock s.cores) rest alike) apart

      next_clock : (cycle rules s).clock ≡ s.clock + 1
      unfolding cycle
      next_clock = refl

      next_ran : ran s (suc k) served ≡ ran (cycle rules s) k rest
      unfolding cycle
      next_ran =
          let cores = delivered s.cores (through rules s.chans served).posts in
          state_path (ran s (suc k) served) (ran (cycle rules s) k rest)
          (omega arith)
          (sym (map-map (λ core. (run rules (s.clock + 1) k core).0) (λ core. (tick_of rules s.clock core).0) cores)
          ∙ ap (map (λ core. (run rules (s.clock + 1) k core).0)) next_cores)
          (ap (map rules.close) all_chans ∙ same_closed rules s.chans (asks_of rules s.clock s.cores) rest alike)

      next_runs : AllNumbered (λ c core. asks_by c rest ≡ (run rules (s.clock + 1) k (tick_of rules s.clock core).0).1) 0 (delivered s.cores (through rules s.chans served).posts)
          → AreRuns (cycle rules s).clock k rest (delivered (cycle rules s).cores (through rules (cycle rules s).chans rest).posts)
      unfolding cycle
      next_runs h =
          subst (AreRuns (s.clock + 1) k rest) next_cores
          (numbered_map (λ c core. asks_by c rest ≡ (run rules (s.clock + 1) k core).1) (λ core. (tick_of rules s.clock core).0) 0 (delivered s.cores (through rules s.chans served).posts) h)

      next_steps : IsSteps (cycle rules s) k rest → IsSteps s (suc k) served
      next_steps h = record {
        asks = first ∙ ap (λ xs. asks_of rules s.clock s.cores ++ xs) h.asks ∙ sym (asks-first rules s k);
        end = next_ran ∙ h.end ∙ lockstep-first rules s k;
      }

    pub steps : (k : ℕ) (s : StateValue Inner Chan) (served : List Ask) → IsProper rules owns s → s.clock + k ≤ TOP
        → AreRising served → Each (IsProperAsk rules) served
        → AreRuns s.clock k served (delivered s.cores (through rules s.chans served).posts)
        → IsSteps s k served
    steps zero s served is low rising proper runs =
        steps_none s served (closed_all s is) (none_by_core 0 (delivered s.cores (through rules s.chans served).posts) served
        (asks_among served (length (delivered s.cores (through rules s.chans served).posts)) (length-delivered s.cores (through rules s.chans served).posts ∙ is.core_count) proper) runs)
    steps (suc k) s served is low rising proper runs =
        let t = s.clock in
        let sorted : AreSorted served = sorted_from_rising served rising in
        let posts = (through rules s.chans served).posts in
        let cores = delivered s.cores posts in
        let among = asks_among served (length cores) (length-delivered s.cores posts ∙ is.core_count) proper in
        let are = delivered_are rules owns laws s.cores posts (posts_proper rules owns laws s.chans served is.chans proper) is.cores in
        let both = numbered_both (λ c core. asks_by c served ≡ (run rules t (suc k) core).1) (IsCoreOf rules owns) 0 cores runs are in
        let from : Each (λ x. t ≤ (id_of x).cycle) served =
        each_by_core (λ x. t ≤ (id_of x).cycle) 0 cores served among
        (numbered_weaker (λ c core h. subst (Each (λ x. t ≤ (id_of x).cycle)) (sym h.0)
        (each_weaker (λ x at. at.cycle) (run rules t (suc k) core).1 (run_asks rules owns laws t (suc k) c core low h.1))) 0 cores both) in
        let late = posts_later rules owns laws t s.chans served is.chans proper from in
        let now : Ask → Bool = is_at t in
        let then : Ask → Bool = λ x. not (now x) in
        let order : Pairwise (λ x y. now x ≡ false → now y ≡ false) served =
        pairwise_weaker (λ x y up off.
        let later = cycle_rises (id_of x) (id_of y) up.2 in let low = up.0 in let apart = not_eq_of (id_of x).cycle t off in
        eq_is_not (id_of y).cycle t (λ e. omega arith)) served
        (pairwise_with (λ x. t ≤ (id_of x).cycle) (λ x y. is_above (id_of x) (id_of y) ≡ false) served from sorted) in
        let of_cycle : filter now served ≡ asks_of rules t cores =
        cycle_by_core (λ core. (tick_of rules t core).1) t 0 cores (filter now served)
        (pairwise_filter now (λ x y. is_above (id_of x) (id_of y) ≡ false) served sorted)
        (each_weaker (λ x e. eq_of (id_of x).cycle t e) (filter now served) (each_passes now served))
        (each_filter now (IsAmong 0 (length cores)) served among)
        (numbered_weaker (λ c core h. filter_swap (λ x. (id_of x).core == c) now served ∙ ap (filter now) h.0 ∙ first_asks rules owns laws t k c core low h.1) 0 cores both) in
        let first : served ≡ asks_of rules t s.cores ++ filter then served =
        filter_parts now served order ∙ ap (λ xs. xs ++ filter then served) (of_cycle ∙ asks_of-delivered rules t s.cores posts late) in
        let A = asks_of rules t s.cores in
        let rest = filter then served in
        let is_first : filter now served ≡ A = of_cycle ∙ asks_of-delivered rules t s.cores posts late in
        let proper_first : Each (IsProperAsk rules) A = subst (Each (IsProperAsk rules)) is_first (each_filter now (IsProperAsk rules) served proper) in
        let rising_first : AreRising A = subst AreRising is_first (pairwise_filter now (λ x y. is_above (id_of y) (id_of x) ≡ true) served rising) in
        let proper_rest = each_filter then (IsProperAsk rules) served proper in
        let rising_rest = pairwise_filter then (λ x y. is_above (id_of y) (id_of x) ≡ true) served rising in
        let after : Each (IsAfter A) rest = pairwise_across (λ x y. is_above (id_of y) (id_of x) ≡ true) A rest (subst AreRising first rising) in
        let alike = all_alike s.chans A rest is.chans (closed_all s is) proper_first rising_first proper_rest rising_rest after in
        let apart = through_apart rules owns laws (through rules s.chans A).chans rest (through_are rules owns laws s.chans A is.chans proper_first) proper_rest (distinct_from_rising rest rising_rest) in
        let next = next_runs s k served rest first late alike apart
        (numbered_weaker (λ c core h. filter_swap (λ x. (id_of x).core == c) then served ∙ ap (filter then) h.0 ∙ later_asks rules owns laws t k c core low h.1) 0 cores both) in
        next_steps s k served rest first late alike apart
        (steps k (cycle rules s) rest
        (cycle_proper rules owns laws s is (omega arith))
        (let e = next_clock s k served rest first late alike apart in omega arith)
        rising_rest proper_rest next)
