-- A tick: its asks, and that the core stays a core of the machine.
use Rattle.std.proofs.Common.{◌≡◌, ◌∙◌, ℕ, ◌+◌, ◌≤◌, List, [], ◌∷◌, sym, ap, arith, nat_lt}
use Rattle.std.specs.List.{AllByRecursion as Each}
use Rattle.std.proofs.lemmas.List.Elements.{All-filter}
use Rattle.slack_base.specs.declared.bounds.TheConstants.{TOP}
use Rattle.slack_base.specs.declared.messages.Ask.{Ask}
use Rattle.slack_base.specs.declared.stamps.Id.{Id}
use Rattle.slack_base.specs.Inboxes.{CoreValue}
use Rattle.slack_base.specs.Messages.{id_of}
use Rattle.target_law.specs.Cycles.{tick_of}
use Rattle.target_law.specs.Laws.{Laws, AreIds}
use Rattle.target_law.specs.Proper.{IsPostTo, IsCoreOf}
use Rattle.target_law.specs.Rules.{Rules, Owns}
use Rattle.target_law.specs.Served.{AreRising}
use Rattle.target_law.proofs.Ids.{next_above}
use Rattle.target_law.proofs.Lists.{each_weaker}

-- what the ids say of each ask
pub record IsAskAt (t c n : ℕ) (ask : Ask) : Type 0 where
  pub cycle : (id_of ask).cycle ≡ t
  pub core : (id_of ask).core ≡ c
  pub number : n ≤ (id_of ask).number

module _ (t c : ℕ) where
  pub ids_each : (n : ℕ) (asks : List Ask) → AreIds t c n asks → Each (IsAskAt t c n) asks
  ids_each n [] h = tt
  ids_each n (x ∷ asks) h =
      let number : n ≡ (id_of x).number = ap (λ (i : Id). i.number) (sym h.0) in (
        record { cycle = ap (λ (i : Id). i.cycle) h.0; core = ap (λ (i : Id). i.core) h.0; number = omega arith },
        each_weaker (λ y k. let low = k.number in record { cycle = k.cycle; core = k.core; number = omega arith }) asks (ids_each (n + 1) asks h.1),
      )

  pub ids_rise : (n : ℕ) (asks : List Ask) → AreIds t c n asks → AreRising asks
  ids_rise n [] h = tt
  ids_rise n (x ∷ asks) h =
      let number : (id_of x).number ≡ n = ap (λ (i : Id). i.number) h.0 in
      let cycle : (id_of x).cycle ≡ t = ap (λ (i : Id). i.cycle) h.0 in
      let core : (id_of x).core ≡ c = ap (λ (i : Id). i.core) h.0 in (
        each_weaker (λ y k. let low = k.number in next_above (id_of y) (id_of x) (k.cycle ∙ sym cycle) (k.core ∙ sym core) (omega arith)) asks (ids_each (n + 1) asks h.1),
        ids_rise (n + 1) asks h.1,
      )

module _ {Inner Chan : Type 0} (rules : Rules Inner Chan) (owns : Owns Inner Chan) (laws : Laws rules owns) where
  pub ticked_core : (t c : ℕ) (core : CoreValue Inner) → t ≤ TOP → IsCoreOf rules owns c core → IsCoreOf rules owns c (tick_of rules t core).0
  ticked_core t c core low is =
      let tick = laws.ticks t c core low is in
      record { own = tick.own; number = tick.number; inbox = All-filter (λ p. nat_lt t p.due) (IsPostTo rules c) core.inbox is.inbox }

  pub tick_asks : (t c : ℕ) (core : CoreValue Inner) → t ≤ TOP → IsCoreOf rules owns c core → Each (IsAskAt t c 0) (tick_of rules t core).1
  tick_asks t c core low is = ids_each t c 0 (tick_of rules t core).1 (laws.ticks t c core low is).ids
