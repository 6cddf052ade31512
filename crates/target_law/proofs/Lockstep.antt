-- Lockstep, cycle by cycle.
use Rattle.std.proofs.Common.{◌≡◌, ◌∙◌, ℕ, ◌+◌, ◌-◌, ◌≤◌, zero, suc, [], ◌++◌, refl, sym, ap, append_assoc, add-one, add-zero, add-suc, arith}
use Rattle.std.proofs.lemmas.List.{append-nil}
use Rattle.target_law.specs.Cycles.{StateValue, cycle, lockstep, asks, asks_of}
use Rattle.target_law.specs.Rules.{Rules}

pub state_path : {Inner Chan : Type 0} (s r : StateValue Inner Chan) → s.clock ≡ r.clock → s.cores ≡ r.cores → s.chans ≡ r.chans → s ≡ r
state_path s r clock cores chans = λ i. record { clock = clock i; cores = cores i; chans = chans i }

module _ {Inner Chan : Type 0} (rules : Rules Inner Chan) where
  pub clock-cycle : (s : StateValue Inner Chan) → (cycle rules s).clock ≡ s.clock + 1
  unfolding cycle
  clock-cycle s = refl

  pub clock-lockstep : (s : StateValue Inner Chan) (k : ℕ) → (lockstep rules s k).clock ≡ s.clock + k
  unfolding lockstep
  clock-lockstep s zero = sym (add-zero s.clock)
  clock-lockstep s (suc k) = let e = clock-lockstep s k in let f = clock-cycle (lockstep rules s k) in omega arith

  -- the first cycle, and then the others
  pub lockstep-first : (s : StateValue Inner Chan) (k : ℕ) → lockstep rules (cycle rules s) k ≡ lockstep rules s (suc k)
  unfolding lockstep
  lockstep-first s zero = refl
  lockstep-first s (suc k) = ap (cycle rules) (lockstep-first s k)

  pub asks-first : (s : StateValue Inner Chan) (k : ℕ) → asks rules s (suc k) ≡ asks_of rules s.clock s.cores ++ asks rules (cycle rules s) k
  unfolding asks lockstep
  asks-first s zero = sym (append-nil (asks_of rules s.clock s.cores))
  asks-first s (suc k) =
      let A = asks_of rules s.clock s.cores in
      ap (λ xs. xs ++ asks_of rules (lockstep rules s (suc k)).clock (lockstep rules s (suc k)).cores) (asks-first s k)
      ∙ append_assoc A (asks rules (cycle rules s) k) (asks_of rules (lockstep rules s (suc k)).clock (lockstep rules s (suc k)).cores)
      ∙ ap (λ (r : StateValue Inner Chan). A ++ (asks rules (cycle rules s) k ++ asks_of rules r.clock r.cores)) (sym (lockstep-first s k))

  pub asks-none : (s : StateValue Inner Chan) → asks rules s zero ≡ []
  unfolding asks
  asks-none s = refl

  pub lockstep_none : (s : StateValue Inner Chan) (k : ℕ) → k ≡ 0 → s ≡ lockstep rules s k
  unfolding lockstep
  lockstep_none s k none = ap (lockstep rules s) (sym none)

  -- one cycle more
  pub lockstep_more : (s now then : StateValue Inner Chan) (k j : ℕ) → now ≡ lockstep rules s k → then ≡ cycle rules now → j ≡ k + 1 → then ≡ lockstep rules s j
  unfolding lockstep
  lockstep_more s now then k j is one more =
      let last : then ≡ cycle rules (lockstep rules s k) = one ∙ ap (cycle rules) is in
      let next : cycle rules (lockstep rules s k) ≡ lockstep rules s j = ap (lockstep rules s) (sym (more ∙ add-one k)) in
      last ∙ next

  pub lockstep-add : (s : StateValue Inner Chan) (j k : ℕ) → lockstep rules (lockstep rules s j) k ≡ lockstep rules s (j + k)
  unfolding lockstep
  lockstep-add s j zero = ap (lockstep rules s) (sym (add-zero j))
  lockstep-add s j (suc k) = ap (cycle rules) (lockstep-add s j k) ∙ ap (lockstep rules s) (sym (add-suc j k))

  -- cycles from a state that is some cycles on
  pub lockstep_later : (s now then : StateValue Inner Chan) (clock next : ℕ) → s.clock ≤ clock → clock ≤ next → now ≡ lockstep rules s (clock - s.clock) → then ≡ lockstep rules now (next - clock)
      → then ≡ lockstep rules s (next - s.clock)
  lockstep_later s now then clock next le more e f =
      f ∙ ap (λ m. lockstep rules m (next - clock)) e ∙ lockstep-add s (clock - s.clock) (next - clock) ∙ ap (lockstep rules s) (omega arith)
