-- A run that hasn't stopped yet, and its next checkpoint.
use Rattle.std.proofs.Common.{◌≡◌, ◌∙◌, ℕ, ◌+◌, ◌-◌, ◌<◌, ◌≤◌, ◌==◌, ◌||◌, ◌⊎◌, Bool, true, false, IsTrue, IsFalse, min, zero, suc, sym, refl, ap, subst, inl, inr, ⊎_elim, arith}
use Rattle.std.proofs.lemmas.Bool.{cases_lt}
use Rattle.std.proofs.lemmas.Bool.Decides.{nat_tests}
use Rattle.target_law.specs.Cycles.{StateValue, lockstep, all_ended}
use Rattle.target_law.specs.Rules.{Rules}
use Rattle.target_law.specs.Stops.{checkpoint, is_over, is_over_after, Stops, AllStopOnce}
use Rattle.target_law.proofs.Lockstep.{clock-lockstep, lockstep_later}

-- the next checkpoint, reckoned without going past the limit
pub next_checkpoint : (clock interval limit : ℕ) → clock ≤ limit → clock + min interval (limit - clock) ≡ min (clock + interval) limit
next_checkpoint clock interval limit le = omega arith

pub same_number : (a b : ℕ) → a ≡ b → (a == b) ≡ true
same_number a b e = grind (arith, nat_tests)

pub other_number : (a b : ℕ) → a < b → (a == b) ≡ false
other_number a b h = grind (arith, nat_tests)

either_true : (a b : Bool) → b ≡ true → (a || b) ≡ true
either_true true b e = refl
either_true false b e = e

pub earlier : (i n : ℕ) → i < suc n → (i < n) ⊎ (i ≡ n)
earlier i n lt = ⊎_elim inl (λ le. inr (omega arith)) (cases_lt i n)

not_both : {X : Type 0} (b : Bool) → b ≡ true → b ≡ false → X
not_both b on off = absurd (cc)

three_ways : (m n : ℕ) → (m < n) ⊎ ((n < m) ⊎ (m ≡ n))
three_ways m n = ⊎_elim inl (λ le. inr (⊎_elim inl (λ ge. inr (omega arith)) (cases_lt n m))) (cases_lt m n)

module _ {Inner Chan : Type 0} (rules : Rules Inner Chan) (interval limit : ℕ) (s : StateValue Inner Chan) where
  abbrev at : ℕ → ℕ
  at n = checkpoint interval limit s.clock n

  -- the run is at a checkpoint; it has stopped at none before, and stops at this one only if it is the limit
  pub record IsGoing (clock : ℕ) : Type 0 where
    pub intervals : ℕ
    pub begun : s.clock ≤ clock
    pub is : clock ≡ checkpoint interval limit s.clock intervals
    pub first : (i : ℕ) → i < intervals → IsFalse (is_over_after rules interval limit s i)
    pub running : clock < limit → IsFalse (is_over_after rules interval limit s intervals)

  pub going_first : IsGoing s.clock
  going_first = record { intervals = 0; begun = omega arith; is = refl; first = λ i lt. absurd (omega arith); running = λ lt. other_number s.clock limit lt }

  -- whether the run stops at a checkpoint after the first
  pub over_after : (n z : ℕ) (then : StateValue Inner Chan) → s.clock ≤ z → z ≡ checkpoint interval limit s.clock (suc n) → then ≡ lockstep rules s (z - s.clock)
      → is_over_after rules interval limit s (suc n) ≡ ((z == limit) || all_ended rules then)
  over_after n z then le e f =
      let here = lockstep rules s (at (suc n) - s.clock) in
      let same : here ≡ then = ap (λ m. lockstep rules s (m - s.clock)) (sym e) ∙ sym f in
      let k = z - s.clock in
      let clock : then.clock ≡ z = ap (λ (r : StateValue Inner Chan). r.clock) f ∙ clock-lockstep rules s k ∙ (let back : s.clock + k ≡ z = omega arith in back) in
      ap (is_over rules limit) same ∙ ap (λ m. (m == limit) || all_ended rules then) clock

  over_limit : (n z : ℕ) → s.clock ≤ z → z ≡ checkpoint interval limit s.clock n → z ≡ limit → IsTrue (is_over_after rules interval limit s n)
  over_limit zero z le e f = same_number s.clock limit (sym e ∙ f)
  over_limit (suc n) z le e f =
      over_after n z (lockstep rules s (z - s.clock)) le e refl
      ∙ ap (λ b. b || all_ended rules (lockstep rules s (z - s.clock))) (same_number z limit f)

  -- at the limit
  pub stops_here : (clock : ℕ) → IsGoing clock → clock ≡ limit → Stops rules interval limit s clock
  stops_here clock g e = record { intervals = g.intervals; at = g.is; over = over_limit g.intervals clock g.begun g.is e; first = g.first }

  first_of_more : (clock : ℕ) (g : IsGoing clock) → clock < limit → (i : ℕ) → i < suc g.intervals → IsFalse (is_over_after rules interval limit s i)
  first_of_more clock g lt i l =
      ⊎_elim (λ before. g.first i before) (λ last. subst (λ n. IsFalse (is_over_after rules interval limit s n)) (sym last) (g.running lt)) (earlier i g.intervals l)

  -- one interval more
  module _ (clock cycles next : ℕ) (g : IsGoing clock) (lt : clock < limit) (cycles_are : cycles ≡ min interval (limit - clock)) (next_at : next ≡ clock + cycles)
      (now then : StateValue Inner Chan) (here : now ≡ lockstep rules s (clock - s.clock)) (ran : then ≡ lockstep rules now (clock + cycles - clock)) where
    next_is : next ≡ checkpoint interval limit s.clock (suc g.intervals)
    next_is = next_at ∙ ap (λ n. clock + n) cycles_are ∙ next_checkpoint clock interval limit (omega arith) ∙ ap (λ n. min (n + interval) limit) g.is

    from_start : s.clock ≤ next
    from_start = let begun = g.begun in omega arith

    pub next_low : next ≤ limit
    next_low = omega arith

    pub next_state : then ≡ lockstep rules s (next - s.clock)
    next_state = lockstep_later rules s now then clock next g.begun (omega arith) here (ran ∙ ap (lockstep rules now) (omega arith))

    over_next : (over : Bool) → over ≡ all_ended rules then → is_over_after rules interval limit s (suc g.intervals) ≡ ((next == limit) || over)
    over_next over e = over_after g.intervals next then from_start next_is next_state ∙ ap (λ b. (next == limit) || b) (sym e)

    -- at the next checkpoint, where all cores have ended
    pub stops_next : (over : Bool) → over ≡ all_ended rules then → IsTrue over → Stops rules interval limit s next
    stops_next over e on = record {
      intervals = suc g.intervals;
      at = next_is;
      over = over_next over e ∙ either_true (next == limit) over on;
      first = first_of_more clock g lt;
    }

    pub going_next : (over : Bool) → over ≡ all_ended rules then → IsFalse over → IsGoing next
    going_next over e off = record {
      intervals = suc g.intervals;
      begun = from_start;
      is = next_is;
      first = first_of_more clock g lt;
      running = λ low. over_next over e ∙ ap (λ b. b || over) (other_number next limit low) ∙ off;
    }

pub all_stop_once : {Inner Chan : Type 0} (rules : Rules Inner Chan) → AllStopOnce rules
all_stop_once rules interval limit s y z a b =
    let m = a.intervals in
    let n = b.intervals in
    ⊎_elim (λ lt. not_both (is_over_after rules interval limit s m) a.over (b.first m lt))
    (λ rest. ⊎_elim (λ lt. not_both (is_over_after rules interval limit s n) b.over (a.first n lt))
    (λ e. a.at ∙ ap (checkpoint interval limit s.clock) e ∙ sym b.at) rest)
    (three_ways m n)
