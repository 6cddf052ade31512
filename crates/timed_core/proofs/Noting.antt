-- How many sets a core may note in its cycles, one after another.
use Rattle.std.proofs.Common.{◌≡◌, ◌∙◌, ℕ, ◌+◌, ◌-◌, ◌<◌, ◌≤◌, zero, suc, List, [], length, refl, sym, ap, subst, arith}
use Rattle.std.specs.List.{AllByRecursion}
use Rattle.slack_base.specs.declared.messages.Post.{Post}
use Rattle.slack_base.specs.Inboxes.{CoreValue, tick_by, ticks_by}
use Rattle.timed_core.specs.Code.{CodeValue}
use Rattle.timed_core.specs.Cores.{HartValue}
use Rattle.timed_core.specs.Noting.{executes, executions, work, works}
use Rattle.timed_core.specs.Outcomes.{IsReady}
use Rattle.timed_core.specs.Stretches.{stretch}
use Rattle.timed_core.specs.Ticks.{applied_all, id_at, stepped, tick}
use Rattle.timed_core.proofs.Due.{none_due, later_by}
use Rattle.timed_core.proofs.Stretches.{tick_of_step}

regroup : (whole a b c rest : ℕ) → whole ≡ a + rest → rest ≡ b + c → whole ≡ a + b + c
regroup whole a b c rest first then = omega arith

none_first : (n : ℕ) → n ≡ 0 + n
none_first n = omega arith

none_last : (n : ℕ) → n + 0 ≡ n
none_last n = omega arith

-- what was noted before and what is noted now
summed : (first middle last a b whole : ℕ) → whole ≡ a + b → middle ≤ first + a → last ≤ middle + b → last ≤ first + whole
summed first middle last a b whole is before now = omega arith

-- cycles of a hart without posts
module _ (code : CodeValue) (number : ℕ) where
  executions-add : (t j k : ℕ) (core : HartValue)
      → executions code number t (j + k) core ≡ executions code number t j core + executions code number (t + j) k (stretch code number t j core).0
  executions-add t zero k core =
      let none : 0 + k ≡ k = omega arith in
      let same : t ≡ t + 0 = omega arith in
      ap (λ n. executions code number t n core) none ∙ ap (λ s. executions code number s k core) same ∙ none_first (executions code number (t + 0) k core)
  executions-add t (suc j) k core =
      let next = (stepped code (id_at t core number) core).0 in
      let last = (stretch code number (t + 1) j next).0 in
      let apart : suc j + k ≡ suc (j + k) = omega arith in
      let later : t + 1 + j ≡ t + suc j = omega arith in
      regroup _ (executes core) (executions code number (t + 1) j next) (executions code number (t + suc j) k last) (executions code number (t + 1) (j + k) next)
      (ap (λ n. executions code number t n core) apart)
      (executions-add (t + 1) j k next ∙ ap (λ s. executions code number (t + 1) j next + executions code number s k last) later)

  -- behind a stretch that asked for nothing
  pub noted_on : (from t next : ℕ) (first hart : HartValue) (none some all : ℕ) → from ≤ t → t ≤ next → stretch code number from (t - from) first ≡ (hart, [])
      → some ≤ none + executions code number from (t - from) first → all ≤ some + executions code number t (next - t) hart
      → all ≤ none + executions code number from (next - from) first
  noted_on from t next first hart none some all le on silent before now =
      let far : next - from ≡ t - from + (next - t) = omega (arith, le, on) in
      let begin : from + (t - from) ≡ t = omega (arith, le) in
      let front = executions code number from (t - from) first in
      summed none some all front (executions code number t (next - t) hart) (executions code number from (next - from) first)
      (ap (λ n. executions code number from n first) far
      ∙ executions-add from (t - from) (next - t) first
      ∙ ap (λ s. front + executions code number s (next - t) (stretch code number from (t - from) first).0) begin
      ∙ ap (λ r. front + executions code number t (next - t) r.0) silent)
      before now

  -- a hart that is ready executes an instruction
  executes_one : (t : ℕ) (hart : HartValue) → IsReady hart → executions code number t (t + 1 - t) hart ≡ 1
  executes_one t hart ready =
      let single : t + 1 - t ≡ 1 = omega arith in
      let one : executes hart ≡ 1 = rw (ready.running, ready.free, ready.awake) refl in
      ap (λ n. executions code number t n hart) single ∙ ap (λ n. n + 0) one

  -- and notes one set at most
  pub noted_one : (from t : ℕ) (first hart : HartValue) (none some all : ℕ) → from ≤ t → stretch code number from (t - from) first ≡ (hart, [])
      → some ≤ none + executions code number from (t - from) first → IsReady hart → all ≤ some + 1 → all ≤ none + executions code number from (t + 1 - from) first
  noted_one from t first hart none some all le silent before ready now =
      noted_on from t (t + 1) first hart none some all le (omega arith) silent before (subst (λ n. all ≤ some + n) (sym (executes_one t hart ready)) now)

  -- a stretch of one cycle
  pub one_cycle : (t next : ℕ) (hart : HartValue) → t < next → next ≤ t + 1 → executions code number t (next - t) hart ≡ executes hart
  one_cycle t next hart lt le = let single : next - t ≡ 1 = omega (arith, lt, le) in ap (λ n. executions code number t n hart) single ∙ none_last (executes hart)

module _ (code : CodeValue) where
  works-add : (t j k : ℕ) (core : CoreValue HartValue) → works code t (j + k) core ≡ works code t j core + works code (t + j) k (ticks_by (tick code) t j core).0
  works-add t zero k core =
      let none : 0 + k ≡ k = omega arith in
      let same : t ≡ t + 0 = omega arith in
      ap (λ n. works code t n core) none ∙ ap (λ s. works code s k core) same ∙ none_first (works code (t + 0) k core)
  works-add t (suc j) k core =
      let next = (tick_by (tick code) t core).0 in
      let last = (ticks_by (tick code) (t + 1) j next).0 in
      let apart : suc j + k ≡ suc (j + k) = omega arith in
      let later : t + 1 + j ≡ t + suc j = omega arith in
      regroup _ (work code t core) (works code (t + 1) j next) (works code (t + suc j) k last) (works code (t + 1) (j + k) next)
      (ap (λ n. works code t n core) apart)
      (works-add (t + 1) j k next ∙ ap (λ s. works code (t + 1) j next + works code s k last) later)

  -- ticks behind others
  pub noted_more : (from t next : ℕ) (first core : CoreValue HartValue) (none some all : ℕ) → from ≤ t → t < next → core ≡ (ticks_by (tick code) from (t - from) first).0
      → some ≤ none + works code from (t - from) first → all ≤ some + works code t (next - t) core → all ≤ none + works code from (next - from) first
  noted_more from t next first core none some all le on after before now =
      let far : next - from ≡ t - from + (next - t) = omega (arith, le, on) in
      let begin : from + (t - from) ≡ t = omega (arith, le) in
      let front = works code from (t - from) first in
      summed none some all front (works code t (next - t) core) (works code from (next - from) first)
      (ap (λ n. works code from n first) far
      ∙ works-add from (t - from) (next - t) first
      ∙ ap (λ s. front + works code s (next - t) (ticks_by (tick code) from (t - from) first).0) begin
      ∙ ap (λ c. front + works code t (next - t) c) (sym after))
      before now

  -- one tick
  pub the_work : (t next : ℕ) (core : CoreValue HartValue) → t < next → next ≤ t + 1 → works code t (next - t) core ≡ work code t core
  the_work t next core lt le = let single : next - t ≡ 1 = omega (arith, lt, le) in ap (λ n. works code t n core) single ∙ none_last (work code t core)

  -- a cycle in which no post is due
  work_of_cycle : (t : ℕ) (core : HartValue) (inbox : List Post) → AllByRecursion (λ p. t < p.due) inbox → work code t (record { inner = core; inbox = inbox }) ≡ executes core
  work_of_cycle t core inbox later =
      ap (λ due. length due + executes (applied_all code.base t 0 core due).0) (none_due t inbox later) ∙ sym (none_first (executes core))

  -- ticks in which no post is due
  pub works_of_stretch : (t k due : ℕ) (core : HartValue) (inbox : List Post) → AllByRecursion (λ p. due ≤ p.due) inbox → t + k ≤ due
      → works code t k (record { inner = core; inbox = inbox }) ≡ executions code 0 t k core
  works_of_stretch t zero due core inbox later le = refl
  works_of_stretch t (suc k) due core inbox later le =
      let now = later_by t due inbox (omega (arith, le)) later in
      let next = (stepped code (id_at t core 0) core).0 in
      ap (λ n. n + works code (t + 1) k (tick_by (tick code) t (record { inner = core; inbox = inbox })).0) (work_of_cycle t core inbox now)
      ∙ ap (λ r. executes core + works code (t + 1) k r.0) (tick_of_step code t core inbox now)
      ∙ ap (λ n. executes core + n) (works_of_stretch (t + 1) k due next inbox later (omega (arith, le)))
