-- The asks of a cycle, and of cycles one after another, are in strictly rising order of their ids.
use Rattle.std.proofs.Common.{◌∙◌, ℕ, ◌+◌, ◌≤◌, zero, suc, List, [], ◌∷◌, sym, subst, arith}
use Rattle.std.specs.List.{AllByRecursion as Each}
use Rattle.slack_base.specs.declared.bounds.TheConstants.{TOP}
use Rattle.slack_base.specs.Inboxes.{CoreValue}
use Rattle.slack_base.specs.Messages.{id_of}
use Rattle.target_law.specs.Cycles.{StateValue, tick_of, asks_of, cycle, asks}
use Rattle.target_law.specs.Laws.{Laws}
use Rattle.target_law.specs.Lockstep.{AllCyclesRise, AllAsksRise}
use Rattle.target_law.specs.Numbered.{AllNumbered}
use Rattle.target_law.specs.Proper.{IsCoreOf, IsProper}
use Rattle.target_law.specs.Rules.{Rules, Owns}
use Rattle.target_law.specs.Served.{AreRising, IsAbove}
use Rattle.target_law.proofs.Cores.{tick_asks, ids_rise}
use Rattle.target_law.proofs.Ids.{later_above, core_above}
use Rattle.target_law.proofs.Kept.{cycle_asks, cycle_proper}
use Rattle.target_law.proofs.Lists.{pairwise_append, each_weaker, each_append}
use Rattle.target_law.proofs.Lockstep.{clock-cycle, asks-first, asks-none}

module _ {Inner Chan : Type 0} (rules : Rules Inner Chan) (owns : Owns Inner Chan) (laws : Laws rules owns) where
  asks_of_rise : (t n : ℕ) (cores : List (CoreValue Inner)) → t ≤ TOP → AllNumbered (IsCoreOf rules owns) n cores → AreRising (asks_of rules t cores)
  asks_of_rise t n [] low are = tt
  asks_of_rise t n (core ∷ cores) low are =
      pairwise_append (λ x y. IsAbove y x) (tick_of rules t core).1 (asks_of rules t cores)
      (ids_rise t n 0 (tick_of rules t core).1 (laws.ticks t n core low are.0).ids)
      (asks_of_rise t (n + 1) cores low are.1)
      (each_weaker (λ x at. each_weaker (λ y of. let e = at.core in let l = of.core in core_above (id_of y) (id_of x) (of.cycle ∙ sym at.cycle) (omega arith))
      (asks_of rules t cores) (cycle_asks rules owns laws t (n + 1) cores low are.1)) (tick_of rules t core).1 (tick_asks rules owns laws t n core low are.0))

  pub all_cycles_rise : AllCyclesRise rules owns
  all_cycles_rise s is = asks_of_rise s.clock 0 s.cores is.clock is.cores

  -- the asks of k cycles are of these cycles
  later_asks : (k : ℕ) (s : StateValue Inner Chan) → IsProper rules owns s → s.clock + k ≤ TOP → Each (λ x. s.clock ≤ (id_of x).cycle) (asks rules s k)
  later_asks zero s is low = subst (Each (λ x. s.clock ≤ (id_of x).cycle)) (sym (asks-none rules s)) tt
  later_asks (suc k) s is low =
      let e = clock-cycle rules s in
      subst (Each (λ x. s.clock ≤ (id_of x).cycle)) (sym (asks-first rules s k))
      (each_append (λ x. s.clock ≤ (id_of x).cycle) (asks_of rules s.clock s.cores) (asks rules (cycle rules s) k)
      (each_weaker (λ x of. let c = of.cycle in omega arith) (asks_of rules s.clock s.cores) (cycle_asks rules owns laws s.clock 0 s.cores is.clock is.cores))
      (each_weaker (λ x l. omega arith) (asks rules (cycle rules s) k) (later_asks k (cycle rules s) (cycle_proper rules owns laws s is (omega arith)) (omega arith))))

  asks_rise : (k : ℕ) (s : StateValue Inner Chan) → IsProper rules owns s → s.clock + k ≤ TOP → AreRising (asks rules s k)
  asks_rise zero s is low = subst AreRising (sym (asks-none rules s)) tt
  asks_rise (suc k) s is low =
      let e = clock-cycle rules s in
      let next = cycle_proper rules owns laws s is (omega arith) in
      subst AreRising (sym (asks-first rules s k))
      (pairwise_append (λ x y. IsAbove y x) (asks_of rules s.clock s.cores) (asks rules (cycle rules s) k)
      (all_cycles_rise s is)
      (asks_rise k (cycle rules s) next (omega arith))
      (each_weaker (λ x of. each_weaker (λ y l. let c = of.cycle in later_above (id_of y) (id_of x) (omega arith)) (asks rules (cycle rules s) k) (later_asks k (cycle rules s) next (omega arith)))
      (asks_of rules s.clock s.cores) (cycle_asks rules owns laws s.clock 0 s.cores is.clock is.cores)))

  pub all_asks_rise : AllAsksRise rules owns
  all_asks_rise s k is low = asks_rise k s is low
