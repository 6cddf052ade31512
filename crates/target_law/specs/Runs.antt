-- A run: intervals one after another, until at the end of one all cores have ended or the limit is reached.
use Rattle.std.specs.Prelude.{◌≡◌, ℕ, ◌-◌, ◌<◌, ◌≤◌, IsTrue, IsFalse, List, [], ◌++◌, min}
use Rattle.slack_base.specs.declared.notes.Interval.{Interval}
use Rattle.target_law.specs.Cycles.{StateValue, lockstep, IsLockstepOf}
use Rattle.target_law.specs.Rules.{Rules}
use Rattle.target_law.specs.Stops.{is_over, Stops}

-- how many cycles the next interval has: so many, or as many as are left up to the limit
abbrev pub span : (interval limit : ℕ) → {Inner Chan : Type 0} → StateValue Inner Chan → ℕ
span interval limit s = min interval (limit - s.clock)

module _ {Inner Chan : Type 0} (rules : Rules Inner Chan) where
  -- what an interval of k cycles may do after these notes: from a state, the notes that it adds, and the state after it
  abbrev pub Step : Type 1
  Step = (notes : List Interval) → (k : ℕ) → StateValue Inner Chan → List Interval → StateValue Inner Chan → Type 0

  -- cycle by cycle: nothing is noted
  pub record IsExact (notes : List Interval) (k : ℕ) (s : StateValue Inner Chan) (added : List Interval) (e : StateValue Inner Chan) : Type 0 where
    pub silent : added ≡ []
    pub end : e ≡ lockstep rules s k

  module _ (interval limit : ℕ) where
    -- a run by these steps from s: after one interval or more, the notes so far and the state. Only the last may be over
    pub data Goes (step : Step) (s : StateValue Inner Chan) : List Interval → StateValue Inner Chan → Type 0 where
      first : {notes : List Interval} {e : StateValue Inner Chan} → s.clock < limit → step [] (span interval limit s) s notes e → Goes step s notes e
      next : {notes added : List Interval} {m e : StateValue Inner Chan}
          → Goes step s notes m → IsFalse (is_over rules limit m) → step notes (span interval limit m) m added e → Goes step s (notes ++ added) e

    -- a run by these steps from s, to its end: at once where it begins at its limit
    pub data Ends (step : Step) (s : StateValue Inner Chan) : List Interval → StateValue Inner Chan → Type 0 where
      at_once : s.clock ≡ limit → Ends step s [] s
      later : {notes : List Interval} {e : StateValue Inner Chan} → Goes step s notes e → IsTrue (is_over rules limit e) → Ends step s notes e

    -- the state is that of lockstep at the clock where a run stops, and nothing was noted
    pub record IsExactEnd (s : StateValue Inner Chan) (notes : List Interval) (e : StateValue Inner Chan) : Type 0 where
      pub stops : Stops rules interval limit s e.clock
      pub end : IsLockstepOf rules s e
      pub silent : notes ≡ []

  -- each end of a run cycle by cycle is such a state
  abbrev pub AllExactEnds : Type 0
  AllExactEnds =
      (interval limit : ℕ) (s : StateValue Inner Chan) (notes : List Interval) (e : StateValue Inner Chan)
      → Ends interval limit IsExact s notes e → IsExactEnd interval limit s notes e

  -- and each such state is the end of a run cycle by cycle
  abbrev pub AllEndExactly : Type 0
  AllEndExactly =
      (interval limit : ℕ) (s : StateValue Inner Chan) (notes : List Interval) (e : StateValue Inner Chan)
      → s.clock ≤ limit → IsExactEnd interval limit s notes e → Ends interval limit IsExact s notes e
