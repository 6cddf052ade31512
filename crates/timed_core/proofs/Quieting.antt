-- For how long a core to which no post comes asks for nothing.
use Rattle.std.proofs.Common.{◌≡◌, ◌∙◌, ℕ, zero, suc, ◌+◌, ◌-◌, ◌≤◌, List, [], min, refl, ap, subst, sym, inl, inr, arith, length}
use Rattle.std.proofs.lemmas.Bool.{cases_Bool}
use Rattle.std.specs.List.{AllByRecursion}
use Rattle.slack_base.specs.declared.messages.Post.{Post}
use Rattle.slack_base.specs.Inboxes.{ticks_by}
use Rattle.mesi_cache.specs.Caches.{IsCache}
use Rattle.timed_core.specs.Code.{CodeValue}
use Rattle.timed_core.specs.Cores.{HartValue, is_running}
use Rattle.timed_core.specs.Foresight.{cycles_ahead, here, rest_of}
use Rattle.timed_core.specs.Stretches.{stretch}
use Rattle.timed_core.specs.Ticks.{tick}
use Rattle.timed_core.proofs.Foresight.{foreseen_silent, here_as}
use Rattle.timed_core.proofs.Stretches.{ended_leap, silent_while, ticks_of_stretch}

-- a core is quiet for so long
record IsRest (code : CodeValue) (t most k : ℕ) (core : HartValue) : Type 0 where
  within : k ≤ most
  silent : (stretch code 0 t k core).1 ≡ []

rests : (code : CodeValue) (t most : ℕ) (core : HartValue) → IsCache core.cache → length core.registers ≡ 32 → IsRest code t most (rest_of code core most) core
rests code t most core is size = elim (cases_Bool (is_running core.ended)) [
  | inl running ↦ elim (cases_Bool core.waiting) [
    | inl waits ↦
        let all : rest_of code core most ≡ most = rw (running, waits) refl in
        subst (λ k. IsRest code t most k core) (sym all) (record { within = omega arith; silent = silent_while code 0 t most core waits })
    | inr awake ↦
        let ahead = core.busy + cycles_ahead code core 64 (here core) in
        let some : rest_of code core most ≡ min most ahead = rw (running, awake) refl in
        subst (λ k. IsRest code t most k core) (sym some)
        (record { within = grind arith; silent = foreseen_silent code core 0 t (min most ahead) 64 (here core) core (here_as code core running awake is size) (grind arith) })
  ]
  | inr ended ↦
      let all : rest_of code core most ≡ most = rw ended refl in
      subst (λ k. IsRest code t most k core) (sym all) (record { within = omega arith; silent = ap (λ r. r.1) (ended_leap most core ended code 0 t) })
]

quiet_for : (code : CodeValue) (t k due : ℕ) (core : HartValue) (inbox : List Post) → AllByRecursion (λ p. due ≤ p.due) inbox → k ≤ due - t
    → (stretch code 0 t k core).1 ≡ [] → (ticks_by (tick code) t k (record { inner = core; inbox = inbox })).1 ≡ []
quiet_for code t zero due core inbox later le silent = refl
quiet_for code t (suc k) due core inbox later le silent =
    let before : t + suc k ≤ due = omega (arith, le) in
    ap (λ r. r.1) (ticks_of_stretch code t (suc k) due core inbox later before) ∙ silent

pub quiet_ticks : (code : CodeValue) (t due most k : ℕ) (core : HartValue) (inbox : List Post) → IsCache core.cache → length core.registers ≡ 32 → AllByRecursion (λ p. due ≤ p.due) inbox → most ≡ due - t
    → k ≡ rest_of code core most → (ticks_by (tick code) t k (record { inner = core; inbox = inbox })).1 ≡ []
quiet_ticks code t due most k core inbox is size later count same =
    let rest = rests code t most core is size in
    ap (λ n. (ticks_by (tick code) t n (record { inner = core; inbox = inbox })).1) same
    ∙ quiet_for code t (rest_of code core most) due core inbox later (omega (arith, rest.within, count)) rest.silent
