-- The asks of a piece, each core's share of them, and the order in which they are served.
use Rattle.std.proofs.Common.{◌≡◌, ◌≢◌, ◌∙◌, ℕ, ◌+◌, ◌<◌, ◌≤◌, ◌==◌, List, [], ◌∷◌, ◌++◌, sym, ap, subst, arith}
use Rattle.std.specs.List.{AllByRecursion as Each}
use Rattle.std.specs.List.Sorted.{IsPermutation}
use Rattle.std.proofs.lemmas.Bool.{false≢true}
use Rattle.std.proofs.lemmas.List.{append-nil}
use Rattle.std.proofs.lemmas.List.Elements.{filter-append}
use Rattle.slack_base.specs.declared.bounds.TheConstants.{TOP}
use Rattle.slack_base.specs.declared.messages.Ask.{Ask}
use Rattle.slack_base.specs.declared.stamps.Id.{Id}
use Rattle.slack_base.specs.Messages.{id_of}
use Rattle.slack_base.specs.Stamps.{is_above}
use Rattle.target_law.specs.Drifts.{asks_by}
use Rattle.target_law.specs.Laws.{Laws}
use Rattle.target_law.specs.Numbered.{AllNumbered}
use Rattle.target_law.specs.Proper.{IsProperAsk}
use Rattle.target_law.specs.Rules.{Rules, Owns}
use Rattle.target_law.specs.Served.{AreRising, IsAbove}
use Rattle.target_law.proofs.Lists.{each_weaker, each_append, pairwise_append, filter_all, filter_none, numbered_weaker}
use Rattle.target_law.proofs.Numbers.{eq_is, eq_is_not}
use Rattle.violation_watch.proofs.Channels.{AreDistinct}
use Rattle.violation_watch.proofs.Ids.{above_self}
use Rattle.violation_watch.proofs.Lists.{pairwise_filter, pairwise_weaker, numbered_both}
use Rattle.violation_watch.proofs.Perms.{perm_each, perm_filter}
use Rattle.pacing.specs.Open.{IsLaneOf}
use Rattle.pacing.specs.Pieces.{LaneValue, lane_ticked, asks_through}
use Rattle.pacing.proofs.Orders.{perm_from, rising_once}
use Rattle.pacing.proofs.Ticks.{ticks_asks, ticks_rise}

-- with the places, which are n or more
numbered_from : {X : Type 0} {P Q : ℕ → X → Type 0} (n : ℕ) (xs : List X) → ((c : ℕ) (x : X) → n ≤ c → P c x → Q c x) → AllNumbered P n xs → AllNumbered Q n xs
numbered_from n [] f h = tt
numbered_from n (x ∷ xs) f h = (f n x (omega arith) h.0, numbered_from (n + 1) xs (λ c x l. f c x (omega arith)) h.1)

module _ {Inner Chan : Type 0} (rules : Rules Inner Chan) (owns : Owns Inner Chan) (laws : Laws rules owns) where
  -- a proper ask of a core from this number on, of a cycle from t on and below e
  pub record IsAskFrom (t e n : ℕ) (ask : Ask) : Type 0 where
    pub proper : IsProperAsk rules ask
    pub core : n ≤ (id_of ask).core
    pub low : t ≤ (id_of ask).cycle
    pub high : (id_of ask).cycle < e

  module _ (t k e : ℕ) (end : e ≡ t + k) (low : e ≤ TOP) where
    pub all_asks : (n : ℕ) (lanes : List (LaneValue Inner)) → AllNumbered (IsLaneOf rules owns) n lanes → Each (IsAskFrom t e n) (asks_through rules t k lanes)
    all_asks n [] are = tt
    all_asks n (lane ∷ lanes) are =
        let own = (lane_ticked rules t k lane).1 in
        each_append (IsAskFrom t e n) own (asks_through rules t k lanes)
        (each_weaker (λ x of. let core = of.core in record { proper = of.proper; core = omega arith; low = of.low; high = of.high }) own (ticks_asks rules owns laws t k e n lane.core end low are.0))
        (each_weaker (λ x of. let core = of.core in record { proper = of.proper; core = omega arith; low = of.low; high = of.high }) (asks_through rules t k lanes) (all_asks (n + 1) lanes are.1))

    -- the asks of a core are those that it sent
    shares : (n : ℕ) (lanes : List (LaneValue Inner)) → AllNumbered (IsLaneOf rules owns) n lanes
        → AllNumbered (λ c lane. asks_by c (asks_through rules t k lanes) ≡ (lane_ticked rules t k lane).1) n lanes
    shares n [] are = tt
    shares n (lane ∷ lanes) are =
        let own = (lane_ticked rules t k lane).1 in
        let rest = asks_through rules t k lanes in
        let mine = ticks_asks rules owns laws t k e n lane.core end low are.0 in (
          filter-append (λ ask. (id_of ask).core == n) own rest
              ∙ ap (λ xs. xs ++ asks_by n rest) (filter_all (λ ask. (id_of ask).core == n) own (each_weaker (λ x of. eq_is (id_of x).core n of.core) own mine))
              ∙ ap (λ xs. own ++ xs) (filter_none (λ ask. (id_of ask).core == n) rest (each_weaker (λ x of. let l = of.core in eq_is_not (id_of x).core n (λ same. omega arith)) rest (all_asks (n + 1) lanes are.1)))
              ∙ append-nil own,
          numbered_from (n + 1) lanes (λ c other from is.
              filter-append (λ ask. (id_of ask).core == c) own rest
              ∙ ap (λ xs. xs ++ asks_by c rest) (filter_none (λ ask. (id_of ask).core == c) own (each_weaker (λ x of. let at = of.core in eq_is_not (id_of x).core c (λ same. omega arith)) own mine))
              ∙ is)
              (shares (n + 1) lanes are.1),
        )

    -- no two have the same id
    pub all_distinct : (n : ℕ) (lanes : List (LaneValue Inner)) → AllNumbered (IsLaneOf rules owns) n lanes → AreDistinct (asks_through rules t k lanes)
    all_distinct n [] are = tt
    all_distinct n (lane ∷ lanes) are =
        let own = (lane_ticked rules t k lane).1 in
        pairwise_append (λ x y. id_of x ≢ id_of y) own (asks_through rules t k lanes)
        (pairwise_weaker (λ x y above same. false≢true (sym (above_self (id_of y)) ∙ ap (is_above (id_of y)) (sym same) ∙ above)) own (ticks_rise rules owns laws t k n lane.core (omega arith) are.0))
        (all_distinct (n + 1) lanes are.1)
        (each_weaker (λ x at. each_weaker (λ y of same. let core : (id_of x).core ≡ (id_of y).core = ap (λ (i : Id). i.core) same in let here = at.core in let there = of.core in absurd (omega arith))
        (asks_through rules t k lanes) (all_asks (n + 1) lanes are.1)) own (ticks_asks rules owns laws t k e n lane.core end low are.0))

    module _ (lanes : List (LaneValue Inner)) (are : AllNumbered (IsLaneOf rules owns) 0 lanes) (asks : List Ask)
        (sent : IsPermutation (asks_through rules t k lanes) asks) (rising : AreRising asks) where
      pub served_asks : Each (IsAskFrom t e 0) asks
      served_asks = perm_each (IsAskFrom t e 0) (perm_from (asks_through rules t k lanes) asks sent) (all_asks 0 lanes are)

      pub served_proper : Each (IsProperAsk rules) asks
      served_proper = each_weaker (λ x of. of.proper) asks served_asks

      share : (c : ℕ) (lane : LaneValue Inner) → IsLaneOf rules owns c lane → asks_by c (asks_through rules t k lanes) ≡ (lane_ticked rules t k lane).1
          → asks_by c asks ≡ (lane_ticked rules t k lane).1
      share c lane is own =
          let p = λ (ask : Ask). (id_of ask).core == c in
          sym (rising_once (asks_by c (asks_through rules t k lanes)) (asks_by c asks) (perm_filter p (perm_from (asks_through rules t k lanes) asks sent))
          (subst AreRising (sym own) (ticks_rise rules owns laws t k c lane.core (omega arith) is))
          (pairwise_filter p (λ x y. IsAbove y x) asks rising))
          ∙ own

      -- so it is in the order in which they are served
      pub served_shares : AllNumbered (λ c lane. asks_by c asks ≡ (lane_ticked rules t k lane).1) 0 lanes
      served_shares =
          numbered_weaker (λ c lane both. share c lane both.0 both.1) 0 lanes
          (numbered_both (IsLaneOf rules owns) (λ c lane. asks_by c (asks_through rules t k lanes) ≡ (lane_ticked rules t k lane).1) 0 lanes are (shares 0 lanes are))
