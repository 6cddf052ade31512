-- A core by itself through some cycles: step by step, and what it sends.
use Rattle.std.proofs.Common.{◌≡◌, ℕ, ◌+◌, ◌<◌, ◌≤◌, zero, suc, List, ◌++◌, refl, sym, ap, subst, arith, append_assoc}
use Rattle.std.specs.List.{AllByRecursion as Each}
use Rattle.std.proofs.lemmas.List.{append-nil}
use Rattle.std.proofs.lemmas.List.Elements.{recursion_from_All}
use Rattle.slack_base.specs.declared.bounds.TheConstants.{TOP}
use Rattle.slack_base.specs.declared.histories.Taken.{Taken}
use Rattle.slack_base.specs.declared.messages.Ask.{Ask}
use Rattle.slack_base.specs.Inboxes.{CoreValue}
use Rattle.slack_base.specs.Messages.{id_of}
use Rattle.target_law.specs.Alone.{Alone, ticks}
use Rattle.target_law.specs.Cycles.{tick_of, ticks_of}
use Rattle.target_law.specs.Laws.{Laws}
use Rattle.target_law.specs.Proper.{IsProperAsk, IsCoreOf}
use Rattle.target_law.specs.Rules.{Rules, Owns}
use Rattle.target_law.specs.Served.{AreRising}
use Rattle.target_law.proofs.Cores.{IsAskAt, ticked_core, tick_asks}
use Rattle.target_law.proofs.Lists.{each_weaker, each_append}
use Rattle.violation_watch.proofs.Cores.{run_rises}
use Rattle.violation_watch.proofs.Early.{run}
use Rattle.violation_watch.proofs.Lists.{each_both}

module _ {Inner Chan : Type 0} (rules : Rules Inner Chan) where
  ticks-run : (t k : ℕ) (core : CoreValue Inner) → ticks_of rules t k core ≡ run rules t k core
  ticks-run t zero core = refl
  ticks-run t (suc k) core = let now = tick_of rules t core in ap (λ (rest : CoreValue Inner × List Ask). (rest.0, now.1 ++ rest.1)) (ticks-run (t + 1) k now.0)

  -- the same as the rules of a core alone have it
  pub ticks_alone : (first : CoreValue Inner) (a n t k m : ℕ) (taken : List Taken) (core : CoreValue Inner) (asks : List Ask) → t ≡ a + n → m ≡ n + k
      → Alone rules first a n taken core asks → Alone rules first a m taken (ticks_of rules t k core).0 (asks ++ (ticks_of rules t k core).1)
  ticks_alone first a n t zero m taken core asks t_is m_is h =
      let same : n ≡ m = omega arith in
      subst (λ xs. Alone rules first a m taken core xs) (sym (append-nil asks)) (subst (λ j. Alone rules first a j taken core asks) same h)
  ticks_alone first a n t (suc k) m taken core asks t_is m_is h =
      let now = tick_of rules t core in
      let rest = ticks_of rules (t + 1) k now.0 in
      let one : Alone rules first a (suc n) taken now.0 (asks ++ now.1) =
      subst (λ u. Alone rules first a (suc n) taken (tick_of rules u core).0 (asks ++ (tick_of rules u core).1)) (sym t_is) (ticks h) in
      subst (Alone rules first a m taken rest.0) (append_assoc asks now.1 rest.1)
      (ticks_alone first a (suc n) (t + 1) k m taken now.0 (asks ++ now.1) (omega arith) (omega arith) one)

  -- a proper ask of this core, of a cycle from t on and below e
  pub record IsAskOf (t e c : ℕ) (ask : Ask) : Type 0 where
    pub proper : IsProperAsk rules ask
    pub core : (id_of ask).core ≡ c
    pub low : t ≤ (id_of ask).cycle
    pub high : (id_of ask).cycle < e

  module _ (owns : Owns Inner Chan) (laws : Laws rules owns) where
    pub ticks_asks : (t k e c : ℕ) (core : CoreValue Inner) → e ≡ t + k → e ≤ TOP → IsCoreOf rules owns c core → Each (IsAskOf t e c) (ticks_of rules t k core).1
    ticks_asks t zero e c core end low is = tt
    ticks_asks t (suc k) e c core end low is =
        let now = tick_of rules t core in
        let rest = ticks_of rules (t + 1) k now.0 in
        each_append (IsAskOf t e c) now.1 rest.1
        (each_weaker (λ x both. let cycle = both.1.cycle in record { proper = both.0; core = both.1.core; low = omega arith; high = omega arith }) now.1
        (each_both (IsProperAsk rules) (IsAskAt t c 0) now.1 (recursion_from_All (IsProperAsk rules) now.1 (laws.ticks t c core (omega arith) is).proper)
        (tick_asks rules owns laws t c core (omega arith) is)))
        (each_weaker (λ x of. let l = of.low in record { proper = of.proper; core = of.core; low = omega arith; high = of.high }) rest.1
        (ticks_asks (t + 1) k e c now.0 (omega arith) low (ticked_core rules owns laws t c core (omega arith) is)))

    pub ticks_rise : (t k c : ℕ) (core : CoreValue Inner) → t + k ≤ TOP → IsCoreOf rules owns c core → AreRising (ticks_of rules t k core).1
    ticks_rise t k c core low is = subst (λ (r : CoreValue Inner × List Ask). AreRising r.1) (sym (ticks-run t k core)) (run_rises rules owns laws t k c core low is)
