-- What is so of a machine's rules and of the state that a run begins in is so of those that are equal to them.
use Rattle.std.proofs.Common.{◌≡◌, ◌∙◌, ◌-◌, ap, subst, arith}
use Rattle.target_law.specs.Cycles.{StateValue, lockstep}
use Rattle.target_law.specs.Rules.{Rules}

module _ {Inner Chan : Type 0} (P : Rules Inner Chan → StateValue Inner Chan → Type 0) where
  pub moved : (R rules : Rules Inner Chan) (s start : StateValue Inner Chan) → R ≡ rules → s ≡ start → P R s → P rules start
  moved R rules s start same_rules same_start is = subst (P rules) same_start (subst (λ x. P x s) same_rules is)

-- from a state at clock 0
pub lockstep_from_zero : {Inner Chan : Type 0} (rules : Rules Inner Chan) (s e : StateValue Inner Chan) → s.clock ≡ 0 → e ≡ lockstep rules s (e.clock - s.clock) → e ≡ lockstep rules s e.clock
lockstep_from_zero rules s e begins is = is ∙ ap (lockstep rules s) (let all : e.clock - s.clock ≡ e.clock = omega arith in all)
