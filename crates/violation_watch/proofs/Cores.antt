-- A core by itself: its asks rise, and those of the first cycle come before all others.
use Rattle.std.proofs.Common.{◌≡◌, ◌∙◌, ℕ, ◌+◌, ◌≤◌, ◌==◌, zero, suc, ◌++◌, Bool, true, not, ap, arith}
use Rattle.std.specs.List.{filter, AllByRecursion as Each}
use Rattle.std.proofs.lemmas.List.Elements.{filter-append}
use Rattle.std.proofs.lemmas.List.{append-nil}
use Rattle.slack_base.specs.declared.bounds.TheConstants.{TOP}
use Rattle.slack_base.specs.declared.messages.Ask.{Ask}
use Rattle.slack_base.specs.Inboxes.{CoreValue}
use Rattle.slack_base.specs.Messages.{id_of}
use Rattle.slack_base.specs.Stamps.{is_above}
use Rattle.target_law.specs.Cycles.{tick_of}
use Rattle.target_law.specs.Laws.{Laws}
use Rattle.target_law.specs.Proper.{IsCoreOf}
use Rattle.target_law.specs.Rules.{Rules, Owns}
use Rattle.target_law.specs.Served.{AreRising}
use Rattle.target_law.proofs.Cores.{ids_rise, ticked_core, tick_asks}
use Rattle.target_law.proofs.Ids.{later_above}
use Rattle.target_law.proofs.Lists.{pairwise_append, each_weaker, each_append, filter_all, filter_none}
use Rattle.target_law.proofs.Numbers.{eq_is, eq_is_not}
use Rattle.violation_watch.proofs.Early.{run}

pub record IsAskFrom (t c : ℕ) (ask : Ask) : Type 0 where
  pub cycle : t ≤ (id_of ask).cycle
  pub core : (id_of ask).core ≡ c

abbrev pub is_at : ℕ → Ask → Bool
is_at t x = (id_of x).cycle == t

module _ {Inner Chan : Type 0} (rules : Rules Inner Chan) (owns : Owns Inner Chan) (laws : Laws rules owns) where
  pub run_asks : (t k c : ℕ) (core : CoreValue Inner) → t + k ≤ TOP → IsCoreOf rules owns c core → Each (IsAskFrom t c) (run rules t k core).1
  run_asks t zero c core low is = tt
  run_asks t (suc k) c core low is =
      let now = tick_of rules t core in
      each_append (IsAskFrom t c) now.1 (run rules (t + 1) k now.0).1
      (each_weaker (λ x at. let e = at.cycle in record { cycle = omega arith; core = at.core }) now.1 (tick_asks rules owns laws t c core (omega arith) is))
      (each_weaker (λ x from. let e = from.cycle in record { cycle = omega arith; core = from.core }) (run rules (t + 1) k now.0).1
      (run_asks (t + 1) k c now.0 (omega arith) (ticked_core rules owns laws t c core (omega arith) is)))

  pub run_rises : (t k c : ℕ) (core : CoreValue Inner) → t + k ≤ TOP → IsCoreOf rules owns c core → AreRising (run rules t k core).1
  run_rises t zero c core low is = tt
  run_rises t (suc k) c core low is =
      let now = tick_of rules t core in
      let next = ticked_core rules owns laws t c core (omega arith) is in
      pairwise_append (λ x y. is_above (id_of y) (id_of x) ≡ true) now.1 (run rules (t + 1) k now.0).1
      (ids_rise t c 0 now.1 (laws.ticks t c core (omega arith) is).ids)
      (run_rises (t + 1) k c now.0 (omega arith) next)
      (each_weaker (λ x at. each_weaker (λ y from. let e = at.cycle in let l = from.cycle in later_above (id_of y) (id_of x) (omega arith)) (run rules (t + 1) k now.0).1
      (run_asks (t + 1) k c now.0 (omega arith) next)) now.1 (tick_asks rules owns laws t c core (omega arith) is))

  -- the asks of the first cycle, and the others
  pub first_asks : (t k c : ℕ) (core : CoreValue Inner) → t + suc k ≤ TOP → IsCoreOf rules owns c core → filter (is_at t) (run rules t (suc k) core).1 ≡ (tick_of rules t core).1
  first_asks t k c core low is =
      let now = tick_of rules t core in
      let rest = run rules (t + 1) k now.0 in
      filter-append (is_at t) now.1 rest.1
      ∙ ap (λ xs. xs ++ filter (is_at t) rest.1) (filter_all (is_at t) now.1 (each_weaker (λ x at. eq_is (id_of x).cycle t at.cycle) now.1 (tick_asks rules owns laws t c core (omega arith) is)))
      ∙ ap (λ ys. now.1 ++ ys) (filter_none (is_at t) rest.1 (each_weaker (λ x from. let l = from.cycle in eq_is_not (id_of x).cycle t (λ e. omega arith)) rest.1
      (run_asks (t + 1) k c now.0 (omega arith) (ticked_core rules owns laws t c core (omega arith) is))))
      ∙ append-nil now.1

  pub later_asks : (t k c : ℕ) (core : CoreValue Inner) → t + suc k ≤ TOP → IsCoreOf rules owns c core
      → filter (λ x. not (is_at t x)) (run rules t (suc k) core).1 ≡ (run rules (t + 1) k (tick_of rules t core).0).1
  later_asks t k c core low is =
      let now = tick_of rules t core in
      let rest = run rules (t + 1) k now.0 in
      filter-append (λ x. not (is_at t x)) now.1 rest.1
      ∙ ap (λ xs. xs ++ filter (λ x. not (is_at t x)) rest.1) (filter_none (λ x. not (is_at t x)) now.1 (each_weaker (λ x at. ap not (eq_is (id_of x).cycle t at.cycle)) now.1 (tick_asks rules owns laws t c core (omega arith) is)))
      ∙ filter_all (λ x. not (is_at t x)) rest.1 (each_weaker (λ x from. let l = from.cycle in ap not (eq_is_not (id_of x).cycle t (λ e. omega arith))) rest.1
      (run_asks (t + 1) k c now.0 (omega arith) (ticked_core rules owns laws t c core (omega arith) is)))
