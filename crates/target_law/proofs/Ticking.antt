-- A core by itself through some cycles, some of them first.
use Rattle.std.proofs.Common.{◌≡◌, ◌∙◌, ℕ, ◌+◌, ◌≤◌, zero, suc, List, [], ◌++◌, sym, ap, arith, append_assoc}
use Rattle.std.proofs.lemmas.List.{append-nil}
use Rattle.slack_base.specs.declared.bounds.TheConstants.{TOP}
use Rattle.slack_base.specs.declared.messages.Ask.{Ask}
use Rattle.slack_base.specs.Inboxes.{CoreValue}
use Rattle.target_law.specs.Cycles.{tick_of, ticks_of}
use Rattle.target_law.specs.Laws.{Laws}
use Rattle.target_law.specs.Proper.{IsCoreOf}
use Rattle.target_law.specs.Rules.{Rules, Owns}
use Rattle.target_law.proofs.Cores.{ticked_core}

module _ {Inner Chan : Type 0} (rules : Rules Inner Chan) where
  pub ticks_same : (t u j k : ℕ) (core : CoreValue Inner) → t ≡ u → j ≡ k → ticks_of rules t j core ≡ ticks_of rules u k core
  ticks_same t u j k core e f = λ i. ticks_of rules (e i) (f i) core

  pub ticks_none : (t j : ℕ) (core : CoreValue Inner) → j ≡ 0 → ticks_of rules t j core ≡ (core, [])
  ticks_none t j core e = ap (λ n. ticks_of rules t n core) e

  -- m ticks further: what is left leads to the same
  pub ticks_on : (t m j n u : ℕ) (core new : CoreValue Inner) (asks more : List Ask) → j ≡ m + n → u ≡ t + m → new ≡ (ticks_of rules t m core).0 → more ≡ asks ++ (ticks_of rules t m core).1
      → ((ticks_of rules u n new).0 ≡ (ticks_of rules t j core).0) × (more ++ (ticks_of rules u n new).1 ≡ asks ++ (ticks_of rules t j core).1)
  ticks_on t zero j n u core new asks more j_is u_is new_is more_is =
      let at : u ≡ t = omega arith in
      let long : n ≡ j = omega arith in
      let same : ticks_of rules u n new ≡ ticks_of rules t j core = λ i. ticks_of rules (at i) (long i) (new_is i) in (
        ap (λ r. r.0) same,
        ap (λ r. more ++ r.1) same ∙ ap (λ xs. xs ++ (ticks_of rules t j core).1) (more_is ∙ append-nil asks),
      )
  ticks_on t (suc m) j n u core new asks more j_is u_is new_is more_is =
      let now = tick_of rules t core in
      let rest = ticks_of rules (t + 1) m now.0 in
      let long : suc (m + n) ≡ j = omega arith in
      let whole : ticks_of rules t (suc (m + n)) core ≡ ticks_of rules t j core = ap (λ k. ticks_of rules t k core) long in
      let next = ticks_on (t + 1) m (m + n) n u now.0 new (asks ++ now.1) more (omega arith) (omega arith) new_is (more_is ∙ sym (append_assoc asks now.1 rest.1)) in (
        next.0 ∙ ap (λ r. r.0) whole,
        next.1 ∙ append_assoc asks now.1 (ticks_of rules (t + 1) (m + n) now.0).1 ∙ ap (λ r. asks ++ r.1) whole,
      )

  module _ (owns : Owns Inner Chan) (laws : Laws rules owns) where
    pub ticks_core : (t k c : ℕ) (core : CoreValue Inner) → t + k ≤ TOP → IsCoreOf rules owns c core → IsCoreOf rules owns c (ticks_of rules t k core).0
    ticks_core t zero c core low is = is
    ticks_core t (suc k) c core low is = ticks_core (t + 1) k c (tick_of rules t core).0 (omega arith) (ticked_core rules owns laws t c core (omega arith) is)
