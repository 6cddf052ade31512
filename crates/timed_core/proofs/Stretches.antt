-- Cycles of a core, one after another, with no new post.
use Rattle.std.proofs.Common.{◌≡◌, ◌∙◌, ℕ, ◌+◌, ◌-◌, ◌<◌, ◌≤◌, ◌==◌, zero, suc, true, false, List, [], ◌++◌, Option, None, refl, sym, ap, subst, inl, inr, arith, append_assoc, append-nil, length, length-append}
use Rattle.std.proofs.lemmas.List.{nil_from_length}
use Rattle.std.proofs.lemmas.Bool.{cases_Bool, true≢false}
use Rattle.std.specs.List.{AllByRecursion}
use Rattle.slack_base.specs.declared.messages.Ask.{Ask}
use Rattle.slack_base.specs.declared.messages.Post.{Post}
use Rattle.slack_base.specs.declared.stamps.Id.{Id}
use Rattle.slack_base.specs.Growing.{raised, capped}
use Rattle.slack_base.specs.Inboxes.{CoreValue, tick_by, ticks_by}
use Rattle.timed_core.specs.Code.{CodeValue, word_at}
use Rattle.timed_core.specs.Cores.{HartValue, is_running}
use Rattle.timed_core.specs.Ticks.{asks_of, id_at, fetched, stepped, tick}
use Rattle.timed_core.specs.Stretches.{stretch, IsStretch, IsLeap, AreTicks}
use Rattle.timed_core.specs.Outcomes.{IsReady, Does, asks, ask_of}
use Rattle.timed_core.specs.declared.outcomes.Outcome.{Outcome}
use Rattle.timed_core.specs.declared.outcomes.Outcome.TheVariants.{Ready, Rests, Read, ReadOwn, Put}
use Rattle.timed_core.specs.declared.harts.stretches.Stretch.{Stretch}
use Rattle.timed_core.proofs.Due.{later_than, none_due, all_later, later_by}

-- two lists without an item
append_nil_left : (xs ys : List Ask) → xs ++ ys ≡ [] → xs ≡ []
append_nil_left xs ys e =
    let none : length xs + length ys ≡ 0 = sym (length-append xs ys) ∙ ap length e in
    nil_from_length xs (omega arith)

-- a step that asks for nothing goes first
one_on : (code : CodeValue) (number t k : ℕ) (core next : HartValue) (last : HartValue) → stepped code (id_at t core number) core ≡ (next, None)
    → stretch code number (t + 1) k next ≡ (last, []) → stretch code number t (suc k) core ≡ (last, [])
one_on code number t k core next last one rest =
    ap (λ now. let rest = stretch code number (t + 1) k now.0 in (rest.0, asks_of now.1 ++ rest.1)) one ∙ rest

-- what a step does to a hart that executes nothing
ended_step : (code : CodeValue) (id : Id) (core : HartValue) → is_running core.ended ≡ false → stepped code id core ≡ (core, None)
unfolding stepped
ended_step code id core ended = rw ended refl

pub busy_step : (code : CodeValue) (id : Id) (core : HartValue) → is_running core.ended ≡ true → (core.busy == 0) ≡ false
    → stepped code id core ≡ (record core { busy = core.busy - 1 }, None)
unfolding stepped
busy_step code id core running busy = rw (running, busy) refl

abbrev waited : ℕ → HartValue → HartValue
waited waits core = record core { counts = record core.counts { waits = waits } }

waiting_step : (code : CodeValue) (id : Id) (core : HartValue) → is_running core.ended ≡ true → (core.busy == 0) ≡ true → core.waiting ≡ true
    → stepped code id core ≡ (waited (raised core.counts.waits) core, None)
unfolding stepped
waiting_step code id core running free waiting = rw (running, free, waiting) refl

pub ready_step : (code : CodeValue) (id : Id) (core : HartValue) → IsReady core → stepped code id core ≡ fetched code (word_at code core.pc) id core
unfolding stepped
ready_step code id core r = rw (r.running, r.free, r.awake) refl

-- cycles after the end
pub ended_leap : (k : ℕ) (core : HartValue) → is_running core.ended ≡ false → IsLeap k core core
ended_leap zero core ended code number t = refl
ended_leap (suc k) core ended code number t = one_on code number t k core core core (ended_step code (id_at t core number) core ended) (ended_leap k core ended code number (t + 1))

-- cycles of a busy hart
pub busy_leap : (k : ℕ) (core : HartValue) → is_running core.ended ≡ true → k ≤ core.busy → IsLeap k core (record core { busy = core.busy - k })
busy_leap zero core running le code number t = ap (λ b. (record core { busy = b }, [])) (omega arith)
busy_leap (suc k) core running le code number t =
    let some : (core.busy == 0) ≡ false = grind arith in
    let next = record core { busy = core.busy - 1 } in
    let spent : core.busy - 1 - k ≡ core.busy - suc k = omega arith in
    one_on code number t k core next (record core { busy = core.busy - suc k }) (busy_step code (id_at t core number) core running some)
    (busy_leap k next running (omega arith) code number (t + 1) ∙ ap (λ b. (record core { busy = b }, [])) spent)

-- cycles of a hart that waits
waiting_leap : (k : ℕ) (core : HartValue) → is_running core.ended ≡ true → core.busy ≡ 0 → core.waiting ≡ true
    → IsLeap (suc k) core (waited (capped (core.counts.waits + suc k)) core)
waiting_leap zero core running free waiting code number t =
    one_on code number t 0 core _ _ (waiting_step code (id_at t core number) core running (rw free refl) waiting) refl
waiting_leap (suc k) core running free waiting code number t =
    let next = waited (raised core.counts.waits) core in
    let more : capped (raised core.counts.waits + suc k) ≡ capped (core.counts.waits + suc (suc k)) = grind arith in
    one_on code number t (suc k) core next _ (waiting_step code (id_at t core number) core running (rw free refl) waiting)
    (waiting_leap k next running free waiting code number (t + 1) ∙ ap (λ w. (waited w core, [])) more)

pub waits_leap : (k : ℕ) (core : HartValue) → 0 < k → is_running core.ended ≡ true → core.busy ≡ 0 → core.waiting ≡ true
    → IsLeap k core (waited (capped (core.counts.waits + k)) core)
waits_leap zero core some running free waiting = absurd (omega (arith, some))
waits_leap (suc k) core some running free waiting = waiting_leap k core running free waiting

-- a hart that waits asks for nothing
record IsSilentStep (core : HartValue) (out : HartValue × Option Ask) : Type 0 where
  none : out.1 ≡ None
  waits : out.0.waiting ≡ true

silent_step : (code : CodeValue) (id : Id) (core : HartValue) → core.waiting ≡ true → IsSilentStep core (stepped code id core)
silent_step code id core waits = elim (cases_Bool (is_running core.ended)) [
  | inl running ↦ elim (cases_Bool (core.busy == 0)) [
    | inl free ↦ subst (IsSilentStep core) (sym (waiting_step code id core running free waits)) (record { none = refl; waits = waits })
    | inr busy ↦ subst (IsSilentStep core) (sym (busy_step code id core running busy)) (record { none = refl; waits = waits })
  ]
  | inr ended ↦ subst (IsSilentStep core) (sym (ended_step code id core ended)) (record { none = refl; waits = waits })
]

pub silent_while : (code : CodeValue) (number t k : ℕ) (core : HartValue) → core.waiting ≡ true → (stretch code number t k core).1 ≡ []
silent_while code number t zero core waits = refl
silent_while code number t (suc k) core waits =
    let one = stepped code (id_at t core number) core in
    let silent = silent_step code (id_at t core number) core waits in
    ap (λ o. asks_of o ++ (stretch code number (t + 1) k one.0).1) silent.none ∙ silent_while code number (t + 1) k one.0 silent.waits

-- what leads from one to another, and on
module _ (code : CodeValue) (number : ℕ) where
  abbrev then_on : (t k : ℕ) → HartValue × List Ask → HartValue × List Ask
  then_on t k now = let rest = stretch code number t k now.0 in (rest.0, now.1 ++ rest.1)

  pub stretch-add : (t j k : ℕ) (core : HartValue) → stretch code number t (j + k) core ≡ then_on (t + j) k (stretch code number t j core)
  stretch-add t zero k core =
      let none : 0 + k ≡ k = omega arith in
      let same : t ≡ t + 0 = omega arith in
      ap (λ n. stretch code number t n core) none ∙ ap (λ s. stretch code number s k core) same
  stretch-add t (suc j) k core =
      let now = stepped code (id_at t core number) core in
      let on = stretch code number (t + 1) j now.0 in
      let rest = stretch code number (t + 1 + j) k on.0 in
      let apart : suc j + k ≡ suc (j + k) = omega arith in
      let later : t + 1 + j ≡ t + suc j = omega arith in
      ap (λ n. stretch code number t n core) apart
      ∙ ap (λ r. (r.0, asks_of now.1 ++ r.1)) (stretch-add (t + 1) j k now.0)
      ∙ ap (λ asks. (rest.0, asks)) (sym (append_assoc (asks_of now.1) on.1 rest.1))
      ∙ ap (λ s. then_on s k (stretch code number t (suc j) core)) later

  -- cycles that ask for nothing go first
  pub stretch_after : (t j k : ℕ) (core next : HartValue) → stretch code number t j core ≡ (next, []) → stretch code number t (j + k) core ≡ stretch code number (t + j) k next
  stretch_after t j k core next first = stretch-add t j k core ∙ ap (then_on (t + j) k) first

-- a stretch that asks for nothing asked for nothing before
front_silent : (code : CodeValue) (number t j k : ℕ) (core : HartValue) → (stretch code number t (j + k) core).1 ≡ [] → (stretch code number t j core).1 ≡ []
front_silent code number t j k core silent = append_nil_left _ _ (ap (λ r. r.1) (sym (stretch-add code number t j k core)) ∙ silent)

-- what the last cycle of a stretch asked for
abbrev pub asked : (number : ℕ) → HartValue → Stretch → List Ask
asked number new end = asks_of (ask_of end.outcome (id_at (end.next - 1) new number))

pub nothing_of : (outcome : Outcome) (id : Id) → asks outcome ≡ false → asks_of (ask_of outcome id) ≡ []
nothing_of Ready id h = refl
nothing_of Rests id h = refl
nothing_of (Read line) id h = absurd (true≢false h)
nothing_of (ReadOwn line) id h = absurd (true≢false h)
nothing_of (Put word) id h = absurd (true≢false h)

-- a stretch that asks for nothing
pub silent_stretch : (code : CodeValue) (number from : ℕ) (old new : HartValue) (end : Stretch) → from < end.next → asks end.outcome ≡ false → new.number ≡ old.number
    → stretch code number from (end.next - from) old ≡ (new, []) → IsStretch code number from old new end
silent_stretch code number from old new end some none same silent =
    let whole : end.next - from - 1 + 1 ≡ end.next - from = omega (arith, some) in
    record {
      after = sym (ap (λ r. r.0) silent);
      asks = nothing_of end.outcome (id_at (end.next - 1) new number) none ∙ sym (ap (λ r. r.1) silent);
      last = front_silent code number from (end.next - from - 1) 1 old (ap (λ n. (stretch code number from n old).1) whole ∙ ap (λ r. r.1) silent);
      same = same;
    }

-- a leap is a stretch
pub leap_stretch : (code : CodeValue) (number t k : ℕ) (old new : HartValue) → 0 < k → new.number ≡ old.number → IsLeap k old new
    → IsStretch code number t old new (record { next = t + k; outcome = Rests })
leap_stretch code number t k old new some same leap =
    let count : t + k - t ≡ k = omega arith in
    silent_stretch code number t old new (record { next = t + k; outcome = Rests }) (omega arith) refl same (ap (λ n. stretch code number t n old) count ∙ leap code number t)

pub went_on : (code : CodeValue) (number t : ℕ) (old new : HartValue) (end : Stretch) → IsStretch code number t old new end → asks end.outcome ≡ false
    → stretch code number t (end.next - t) old ≡ (new, [])
went_on code number t old new end s none =
    let out = stretch code number t (end.next - t) old in
    ap (λ core. (core, out.1)) (sym s.after) ∙ ap (λ asks. (new, asks)) (sym s.asks ∙ nothing_of end.outcome (id_at (end.next - 1) new number) none)

-- one instruction is a stretch
pub step_stretch : (code : CodeValue) (number t : ℕ) (old new : HartValue) (outcome : Outcome) → IsReady old
    → Does (fetched code (word_at code old.pc) (id_at t old number) old) (id_at t old number) new outcome
    → IsStretch code number t old new (record { next = t + 1; outcome = outcome })
step_stretch code number t old new outcome ready does =
    let id = id_at t old number in
    let out = stepped code id old in
    let here : t + 1 - 1 ≡ t = omega arith in
    let step : fetched code (word_at code old.pc) id old ≡ out = sym (ready_step code id old ready) in
    let single : 1 ≡ t + 1 - t = omega arith in
    let before : t + 1 - t - 1 ≡ 0 = omega arith in
    let named : id_at (t + 1 - 1) new number ≡ id = ap (λ c. id_at c new number) here ∙ ap (λ n. record { cycle = t; core = n; number = number }) does.number in
    let sent : asks_of (ask_of outcome (id_at (t + 1 - 1) new number)) ≡ (stretch code number t 1 old).1 =
    ap (λ i. asks_of (ask_of outcome i)) named ∙ ap asks_of (does.ask ∙ ap (λ r. r.1) step) ∙ sym (append-nil (asks_of out.1)) in
    record {
      after = does.after ∙ ap (λ r. r.0) step ∙ ap (λ n. (stretch code number t n old).0) single;
      asks = sent ∙ ap (λ n. (stretch code number t n old).1) single;
      last = ap (λ n. (stretch code number t n old).1) before;
      same = does.number;
    }

-- a stretch behind one that asked for nothing
pub stretch_on : (code : CodeValue) (number from t : ℕ) (first old new : HartValue) (end : Stretch) → from ≤ t → t < end.next → old.number ≡ first.number
    → stretch code number from (t - from) first ≡ (old, []) → IsStretch code number t old new end → IsStretch code number from first new end
stretch_on code number from t first old new end le lt same silent s =
    let far : t - from + (end.next - t) ≡ end.next - from = omega arith in
    let near : t - from + (end.next - t - 1) ≡ end.next - from - 1 = omega arith in
    let begin : from + (t - from) ≡ t = omega arith in
    let on : (k : ℕ) → stretch code number from (t - from + k) first ≡ stretch code number t k old =
    λ k. stretch_after code number from (t - from) k first old silent ∙ ap (λ n. stretch code number n k old) begin in
    let all : stretch code number t (end.next - t) old ≡ stretch code number from (end.next - from) first = sym (on (end.next - t)) ∙ ap (λ n. stretch code number from n first) far in
    record {
      after = s.after ∙ ap (λ r. r.0) all;
      asks = s.asks ∙ ap (λ r. r.1) all;
      last = ap (λ n. (stretch code number from n first).1) (sym near) ∙ ap (λ r. r.1) (on (end.next - t - 1)) ∙ s.last;
      same = s.same ∙ same;
    }

-- an instruction behind a stretch that asked for nothing
pub instruction_on : (code : CodeValue) (number from t : ℕ) (first hart new : HartValue) (outcome : Outcome) → from ≤ t → hart.number ≡ first.number
    → stretch code number from (t - from) first ≡ (hart, []) → IsReady hart
    → Does (fetched code (word_at code hart.pc) (id_at t hart number) hart) (id_at t hart number) new outcome
    → IsStretch code number from first new (record { next = t + 1; outcome = outcome })
instruction_on code number from t first hart new outcome le same silent ready does =
    stretch_on code number from t first hart new (record { next = t + 1; outcome = outcome }) le (omega arith) same silent (step_stretch code number t hart new outcome ready does)

-- a stretch of one cycle is a step
pub record IsOneStep (code : CodeValue) (id : Id) (old new : HartValue) (sent : List Ask) : Type 0 where
  pub after : new ≡ (stepped code id old).0
  pub asks : sent ≡ asks_of (stepped code id old).1

pub one_step : (code : CodeValue) (number t : ℕ) (old new : HartValue) (end : Stretch) → end.next ≡ t + 1 → IsStretch code number t old new end
    → IsOneStep code (id_at t old number) old new (asks_of (ask_of end.outcome (id_at t new number)))
one_step code number t old new end is s =
    let id = id_at t old number in
    let single : end.next - t ≡ 1 = omega (arith, is) in
    let here : t ≡ end.next - 1 = omega (arith, is) in
    record {
      after = s.after ∙ ap (λ n. (stretch code number t n old).0) single;
      asks = ap (λ c. asks_of (ask_of end.outcome (id_at c new number))) here ∙ s.asks ∙ ap (λ n. (stretch code number t n old).1) single
          ∙ append-nil (asks_of (stepped code id old).1);
    }

module _ (code : CodeValue) where
  abbrev ticks_on : (t k : ℕ) → CoreValue HartValue × List Ask → CoreValue HartValue × List Ask
  ticks_on t k now = let rest = ticks_by (tick code) t k now.0 in (rest.0, now.1 ++ rest.1)

  pub ticks-add : (t j k : ℕ) (core : CoreValue HartValue) → ticks_by (tick code) t (j + k) core ≡ ticks_on (t + j) k (ticks_by (tick code) t j core)
  ticks-add t zero k core =
      let none : 0 + k ≡ k = omega arith in
      let same : t ≡ t + 0 = omega arith in
      ap (λ n. ticks_by (tick code) t n core) none ∙ ap (λ s. ticks_by (tick code) s k core) same
  ticks-add t (suc j) k core =
      let now = tick_by (tick code) t core in
      let on = ticks_by (tick code) (t + 1) j now.0 in
      let rest = ticks_by (tick code) (t + 1 + j) k on.0 in
      let apart : suc j + k ≡ suc (j + k) = omega arith in
      let later : t + 1 + j ≡ t + suc j = omega arith in
      ap (λ n. ticks_by (tick code) t n core) apart
      ∙ ap (λ r. (r.0, now.1 ++ r.1)) (ticks-add (t + 1) j k now.0)
      ∙ ap (λ asks. (rest.0, asks)) (sym (append_assoc now.1 on.1 rest.1))
      ∙ ap (λ s. ticks_on s k (ticks_by (tick code) t (suc j) core)) later

  pub ticks_after : (t j k : ℕ) (core next : CoreValue HartValue) → ticks_by (tick code) t j core ≡ (next, []) → ticks_by (tick code) t (j + k) core ≡ ticks_by (tick code) (t + j) k next
  ticks_after t j k core next first = ticks-add t j k core ∙ ap (ticks_on (t + j) k) first

  abbrev beside : List Post → HartValue × List Ask → CoreValue HartValue × List Ask
  beside inbox r = (record { inner = r.0; inbox = inbox }, r.1)

  -- a tick in which no post is due
  pub tick_of_step : (t : ℕ) (core : HartValue) (inbox : List Post) → AllByRecursion (λ p. t < p.due) inbox →
      tick_by (tick code) t (record { inner = core; inbox = inbox }) ≡ beside inbox (let now = stepped code (id_at t core 0) core in (now.0, asks_of now.1))
  unfolding tick
  tick_of_step t core inbox later =
      ap (λ due. (record { inner = (tick code core t due).0; inbox = later_than t inbox }, (tick code core t due).1)) (none_due t inbox later)
      ∙ ap (λ left. beside left (let now = stepped code (id_at t core 0) core in (now.0, asks_of now.1))) (all_later t inbox later)

  -- ticks in which no post is due
  pub ticks_of_stretch : (t k due : ℕ) (core : HartValue) (inbox : List Post) → AllByRecursion (λ p. due ≤ p.due) inbox → t + k ≤ due →
      ticks_by (tick code) t k (record { inner = core; inbox = inbox }) ≡ beside inbox (stretch code 0 t k core)
  ticks_of_stretch t zero due core inbox later le = refl
  ticks_of_stretch t (suc k) due core inbox later le =
      let now = stepped code (id_at t core 0) core in
      ap (λ r. let rest = ticks_by (tick code) (t + 1) k r.0 in (rest.0, r.1 ++ rest.1)) (tick_of_step t core inbox (later_by t due inbox (omega arith) later))
      ∙ ap (λ rest. (rest.0, asks_of now.1 ++ rest.1)) (ticks_of_stretch (t + 1) k due now.0 inbox later (omega arith))

-- a stretch is so many ticks
pub stretch_ticks : (code : CodeValue) (t due : ℕ) (old new : HartValue) (inbox : List Post) (end : Stretch) (sent out : List Ask)
    → AllByRecursion (λ p. due ≤ p.due) inbox → t < end.next → end.next ≤ due → IsStretch code 0 t old new end → out ≡ sent ++ asked 0 new end
    → AreTicks code t end.next (record { inner = old; inbox = inbox }) (record { inner = new; inbox = inbox }) sent out
stretch_ticks code t due old new inbox end sent out later lt le s sends =
    let core : CoreValue HartValue = record { inner = old; inbox = inbox } in
    let all : ticks_by (tick code) t (end.next - t) core ≡ beside code inbox (stretch code 0 t (end.next - t) old) =
    ticks_of_stretch code t (end.next - t) due old inbox later (omega (arith, lt, le)) in
    let front : ticks_by (tick code) t (end.next - t - 1) core ≡ beside code inbox (stretch code 0 t (end.next - t - 1) old) =
    ticks_of_stretch code t (end.next - t - 1) due old inbox later (omega (arith, lt, le)) in
    record {
      after = ap (λ h. record { inner = h; inbox = inbox }) s.after ∙ sym (ap (λ r. r.0) all);
      asks = sends ∙ ap (λ asks. sent ++ asks) (s.asks ∙ sym (ap (λ r. r.1) all));
      last = ap (λ r. r.1) front ∙ s.last;
    }

-- one tick
pub one_tick : (code : CodeValue) (t : ℕ) (old new : CoreValue HartValue) (sent out : List Ask)
    → new ≡ (tick_by (tick code) t old).0 → out ≡ sent ++ (tick_by (tick code) t old).1 → AreTicks code t (t + 1) old new sent out
one_tick code t old new sent out after asks =
    let single : 1 ≡ t + 1 - t = omega arith in
    let before : t + 1 - t - 1 ≡ 0 = omega arith in
    record {
      after = after ∙ ap (λ n. (ticks_by (tick code) t n old).0) single;
      asks = asks ∙ ap (λ a. sent ++ a) (sym (append-nil (tick_by (tick code) t old).1) ∙ ap (λ n. (ticks_by (tick code) t n old).1) single);
      last = ap (λ n. (ticks_by (tick code) t n old).1) before;
    }

-- so a tick that was one of these is the tick
pub record IsOneTick (code : CodeValue) (t : ℕ) (old new : CoreValue HartValue) (sent out : List Ask) : Type 0 where
  pub after : new ≡ (tick_by (tick code) t old).0
  pub asks : out ≡ sent ++ (tick_by (tick code) t old).1

pub the_tick : (code : CodeValue) (t next : ℕ) (old new : CoreValue HartValue) (sent out : List Ask) → t < next → next ≤ t + 1
    → AreTicks code t next old new sent out → IsOneTick code t old new sent out
the_tick code t next old new sent out lt le a =
    let single : next - t ≡ 1 = omega (arith, lt, le) in
    record {
      after = a.after ∙ ap (λ n. (ticks_by (tick code) t n old).0) single;
      asks = a.asks ∙ ap (λ n. sent ++ (ticks_by (tick code) t n old).1) single ∙ ap (λ s. sent ++ s) (append-nil (tick_by (tick code) t old).1);
    }

-- no ticks yet, or some of which the last alone may have sent something
pub record AreTicksSoFar (code : CodeValue) (t next : ℕ) (old new : CoreValue HartValue) (sent out : List Ask) : Type 0 where
  pub after : new ≡ (ticks_by (tick code) t (next - t) old).0
  pub asks : out ≡ sent ++ (ticks_by (tick code) t (next - t) old).1
  pub last : t < next → (ticks_by (tick code) t (next - t - 1) old).1 ≡ []

pub no_ticks : (code : CodeValue) (t : ℕ) (core : CoreValue HartValue) (sent : List Ask) → AreTicksSoFar code t t core core sent sent
no_ticks code t core sent =
    let nowhere : 0 ≡ t - t = omega arith in
    record {
      after = ap (λ n. (ticks_by (tick code) t n core).0) nowhere;
      asks = sym (append-nil sent) ∙ ap (λ n. sent ++ (ticks_by (tick code) t n core).1) nowhere;
      last = λ lt. absurd (omega (arith, lt));
    }

-- nothing was sent where the list is as long as it was
nothing_sent : (sent new out : List Ask) → out ≡ sent ++ new → length out ≡ length sent → new ≡ []
nothing_sent sent new out is same =
    let long : length out ≡ length sent + length new = ap length is ∙ length-append sent new in
    nil_from_length new (omega (arith, long, same))

pub more_ticks : (code : CodeValue) (t mid next : ℕ) (old now new : CoreValue HartValue) (sent middle out : List Ask)
    → AreTicksSoFar code t mid old now sent middle → length middle ≡ length sent → t ≤ mid → mid < next → AreTicks code mid next now new middle out
    → AreTicksSoFar code t next old new sent out
more_ticks code t mid next old now new sent middle out before silent le lt more =
    let first = ticks_by (tick code) t (mid - t) old in
    let none : first.1 ≡ [] = nothing_sent sent first.1 middle before.asks silent in
    let so_far : first ≡ (now, []) = ap (λ core. (core, first.1)) (sym before.after) ∙ ap (λ asks. (now, asks)) none in
    let begin : t + (mid - t) ≡ mid = omega (arith, le) in
    let far : mid - t + (next - mid) ≡ next - t = omega (arith, le, lt) in
    let near : mid - t + (next - mid - 1) ≡ next - t - 1 = omega (arith, le, lt) in
    let on : (k : ℕ) → ticks_by (tick code) mid k now ≡ ticks_by (tick code) t (mid - t + k) old =
    λ k. sym (ticks_after code t (mid - t) k old now so_far ∙ ap (λ n. ticks_by (tick code) n k now) begin) in
    let all : ticks_by (tick code) mid (next - mid) now ≡ ticks_by (tick code) t (next - t) old = on (next - mid) ∙ ap (λ n. ticks_by (tick code) t n old) far in
    let same : middle ≡ sent = before.asks ∙ ap (λ asks. sent ++ asks) none ∙ append-nil sent in
    record {
      after = more.after ∙ ap (λ r. r.0) all;
      asks = more.asks ∙ ap (λ s. s ++ (ticks_by (tick code) mid (next - mid) now).1) same ∙ ap (λ r. sent ++ r.1) all;
      last = λ some. sym (ap (λ n. (ticks_by (tick code) t n old).1) near) ∙ sym (ap (λ r. r.1) (on (next - mid - 1))) ∙ more.last;
    }
