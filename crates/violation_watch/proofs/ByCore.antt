-- Asks seen core by core: asks of one cycle, in the order of their ids, are those of its ticks, core after core.
use Rattle.std.proofs.Common.{◌≡◌, ◌∙◌, ℕ, ◌+◌, ◌<◌, ◌≤◌, ◌==◌, List, [], ◌∷◌, ◌++◌, length, Bool, true, false, not, refl, sym, ap, subst, arith}
use Rattle.std.specs.List.{filter, flat_map, AllByRecursion as Each}
use Rattle.std.proofs.lemmas.Bool.{false≢true}
use Rattle.slack_base.specs.declared.messages.Ask.{Ask}
use Rattle.slack_base.specs.declared.stamps.Id.{Id}
use Rattle.slack_base.specs.Messages.{id_of}
use Rattle.slack_base.specs.Stamps.{is_above}
use Rattle.target_law.specs.Drifts.{asks_by}
use Rattle.target_law.specs.Numbered.{AllNumbered}
use Rattle.target_law.specs.Served.{AreRising, Pairwise}
use Rattle.target_law.proofs.Lists.{each_weaker, each_passes, numbered_weaker, numbered_any, filter_case, filter-yes}
use Rattle.target_law.proofs.Numbers.{eq_is, eq_is_not, eq_of, not_eq_of}
use Rattle.violation_watch.proofs.Channels.{AreDistinct}
use Rattle.violation_watch.proofs.Ids.{core_rises, above_self}
use Rattle.violation_watch.proofs.Lists.{pairwise_weaker, pairwise_filter, pairwise_with, each_both, each_filter, each_from_filter, numbered_both, numbered_at, filter_within, filter_parts}
use Rattle.violation_watch.proofs.Sorting.{AreSorted}

-- the ask is of one of so many cores, the first of them of number n
abbrev pub IsAmong : (n many : ℕ) → Ask → Type 0
IsAmong n many x = (n ≤ (id_of x).core) × ((id_of x).core < n + many)

abbrev is_by : ℕ → Ask → Bool
is_by c x = (id_of x).core == c

not_true : (b : Bool) → not b ≡ true → b ≡ false
not_true true h = sym h
not_true false h = refl

not_false : (b : Bool) → not b ≡ false → b ≡ true
not_false true h = refl
not_false false h = sym h

module _ {X : Type 0} where
  -- what is so of each core's asks
  pub each_by_core : (P : Ask → Type 0) (n : ℕ) (cores : List X) (asks : List Ask) → Each (IsAmong n (length cores)) asks → AllNumbered (λ c core. Each P (asks_by c asks)) n cores → Each P asks
  each_by_core P n cores [] among h = tt
  each_by_core P n cores (x ∷ asks) among h =
      let c = (id_of x).core in
      let own = numbered_at (λ c core. Each P (asks_by c (x ∷ asks))) n cores c among.0.0 among.0.1 h in
      let all : Each P (x ∷ asks_by c asks) = subst (Each P) (filter-yes (is_by c) x asks (eq_is c c refl)) own.1 in
      (all.0, each_by_core P n cores asks among.1 (numbered_weaker (λ c core k. filter_case (is_by c) x asks (λ ys. Each P ys → Each P (asks_by c asks)) (λ on l. l.1) (λ off l. l) k) n cores h))

  pub none_by_core : (n : ℕ) (cores : List X) (asks : List Ask) → Each (IsAmong n (length cores)) asks → AllNumbered (λ c core. asks_by c asks ≡ []) n cores → asks ≡ []
  none_by_core n cores asks among h = none asks (each_by_core (λ _. ⊥) n cores asks among (numbered_weaker (λ c core e. subst (Each (λ _. ⊥)) (sym e) tt) n cores h))
    where
      none : (asks : List Ask) → Each (λ _. ⊥) asks → asks ≡ []
      none [] h = refl
      none (x ∷ asks) h = absurd h.0

  -- if each core's asks rise, no two asks have the same id
  pub distinct_by_core : (n : ℕ) (cores : List X) (asks : List Ask) → Each (IsAmong n (length cores)) asks → AllNumbered (λ c core. AreRising (asks_by c asks)) n cores → AreDistinct asks
  distinct_by_core n cores [] among h = tt
  distinct_by_core n cores (x ∷ asks) among h =
      let c = (id_of x).core in
      let own = numbered_at (λ c core. AreRising (asks_by c (x ∷ asks))) n cores c among.0.0 among.0.1 h in
      let all : AreRising (x ∷ asks_by c asks) = subst AreRising (filter-yes (is_by c) x asks (eq_is c c refl)) own.1 in (
        each_from_filter (is_by c) asks
            (λ y off same. not_eq_of (id_of y).core c off (ap (λ (i : Id). i.core) (sym same)))
            (each_weaker (λ y above same. false≢true (sym (above_self (id_of x)) ∙ ap (λ i. is_above i (id_of x)) same ∙ above)) (asks_by c asks) all.0),
        distinct_by_core n cores asks among.1 (numbered_weaker (λ c core k. filter_case (is_by c) x asks (λ ys. AreRising ys → AreRising (asks_by c asks)) (λ on l. l.1) (λ off l. l) k) n cores h),
      )

  -- asks of one cycle in the order of their ids are those of each core, core after core
  pub cycle_by_core : (g : X → List Ask) (t n : ℕ) (cores : List X) (asks : List Ask) → AreSorted asks → Each (λ x. (id_of x).cycle ≡ t) asks → Each (IsAmong n (length cores)) asks
      → AllNumbered (λ c core. asks_by c asks ≡ g core) n cores → asks ≡ flat_map g cores
  cycle_by_core g t n [] [] sorted at among h = refl
  cycle_by_core g t n [] (x ∷ asks) sorted at among h = let low = among.0.0 in let high = among.0.1 in absurd (omega arith)
  cycle_by_core g t n (core ∷ cores) asks sorted at among h =
      let is_other : Ask → Bool = λ x. not (is_by n x) in
      let others = filter is_other asks in
      let In = λ (x : Ask). ((id_of x).cycle ≡ t) × (IsAmong n (length (core ∷ cores)) x) in
      let order : Pairwise (λ x y. is_by n x ≡ false → is_by n y ≡ false) asks =
      pairwise_weaker (λ x y both off. after n t (id_of x) (id_of y) both.0.0 both.1.0 both.0.1.0 both.2 off) asks
      (pairwise_with In (λ x y. is_above (id_of x) (id_of y) ≡ false) asks (each_both (λ x. (id_of x).cycle ≡ t) (IsAmong n (length (core ∷ cores))) asks at among) sorted) in
      filter_parts (is_by n) asks order
      ∙ ap (λ xs. xs ++ others) h.0
      ∙ ap (λ ys. g core ++ ys) (cycle_by_core g t (n + 1) cores others
      (pairwise_filter is_other (λ x y. is_above (id_of x) (id_of y) ≡ false) asks sorted)
      (each_filter is_other (λ x. (id_of x).cycle ≡ t) asks at)
      (each_weaker (λ x both.
      let low = both.1.0 in let high = both.1.1 in
      let apart = not_eq_of (id_of x).core n (not_true (is_by n x) both.0) in
      (omega arith, omega arith)) others
      (each_both (λ x. is_other x ≡ true) (IsAmong n (length (core ∷ cores))) others (each_passes is_other asks) (each_filter is_other (IsAmong n (length (core ∷ cores))) asks among)))
      (numbered_weaker (λ c core both.
      let low : n + 1 ≤ c = both.0 in
      filter_within (is_by c) is_other (λ x off. eq_is_not (id_of x).core c (λ e. let same = eq_of (id_of x).core n (not_false (is_by n x) off) in omega arith)) asks
      ∙ both.1) (n + 1) cores
      (numbered_both (λ c core. n + 1 ≤ c) (λ c core. asks_by c asks ≡ g core) (n + 1) cores (numbered_any (n + 1) (λ c x l. l) cores) h.1)))
    where
      after : (n t : ℕ) (i j : Id) → i.cycle ≡ t → j.cycle ≡ t → n ≤ i.core → is_above i j ≡ false → (i.core == n) ≡ false → (j.core == n) ≡ false
      after n t i j p q low up off =
          let more = core_rises i j up (p ∙ sym q) in
          let apart = not_eq_of i.core n off in
          eq_is_not j.core n (λ e. omega arith)
