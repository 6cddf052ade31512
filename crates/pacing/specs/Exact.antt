-- Runs of intervals whose drifts went as lockstep does.
use Rattle.std.specs.Prelude.{◌≡◌, ℕ, List, [], ◌∷◌, ◌≤◌}
use Rattle.std.specs.List.{All}
use Rattle.std.specs.List.Sorted.{IsPermutation}
use Rattle.slack_base.specs.declared.histories.Violation.{Violation}
use Rattle.slack_base.specs.declared.messages.Ask.{Ask}
use Rattle.slack_base.specs.declared.notes.Interval.{Interval}
use Rattle.slack_base.specs.declared.notes.Interval.TheVariants.{Kept, Rolled, Bounded}
use Rattle.target_law.specs.Cycles.{StateValue, IsLockstepOf, lockstep, asks}
use Rattle.target_law.specs.Proper.{IsPunctual}
use Rattle.target_law.specs.Rules.{Rules}
use Rattle.target_law.specs.Stops.{Stops}
use Rattle.target_law.specs.Ticks.{cycles_of}

-- what the monitors recorded in an interval
abbrev pub seen_of : Interval → List Violation
seen_of (Kept cycles) = []
seen_of (Rolled cycles drift seen) = seen
seen_of (Bounded cycles drift seen) = seen

-- the asks that the drift of an interval served, in the order of serving, as far as they are noted
abbrev pub served_of : Interval → List Ask
served_of (Kept cycles) = []
served_of (Rolled cycles drift seen) = drift.served
served_of (Bounded cycles drift seen) = drift.served

module _ {Inner Chan : Type 0} (rules : Rules Inner Chan) where
  -- the intervals served the asks of lockstep from this state, each once
  abbrev pub HaveServed : (s : StateValue Inner Chan) → List Interval → Type 0
  HaveServed s [] = Unit {0}
  HaveServed s (note ∷ notes) = IsPermutation (served_of note) (asks rules s (cycles_of note)) × HaveServed (lockstep rules s (cycles_of note)) notes

  module _ (interval limit : ℕ) where
    -- the run stopped where a run cycle by cycle stops, in the state of lockstep, and served its asks
    pub record IsExactRun (s : StateValue Inner Chan) (notes : List Interval) (e : StateValue Inner Chan) : Type 0 where
      pub stops : Stops rules interval limit s e.clock
      pub end : IsLockstepOf rules s e
      pub served : HaveServed s notes

    -- so it is where the monitors recorded nothing
    abbrev pub IsExactIfQuiet : (s : StateValue Inner Chan) → List Interval → (e : StateValue Inner Chan) → Type 0
    IsExactIfQuiet s notes e = All (λ note. seen_of note ≡ []) notes → IsExactRun s notes e

    -- and they recorded nothing; no post is late at the end, where none was at first
    pub record IsQuietRun (s : StateValue Inner Chan) (notes : List Interval) (e : StateValue Inner Chan) : Type 0 where
      pub quiet : All (λ note. seen_of note ≡ []) notes
      pub exact : IsExactRun s notes e
      pub punctual : IsPunctual s → IsPunctual e

    -- so it is where pieces are no longer than the least time from an ask to its post
    abbrev pub IsQuietIfShort : (quantum : ℕ) → (s : StateValue Inner Chan) → List Interval → (e : StateValue Inner Chan) → Type 0
    IsQuietIfShort quantum s notes e = quantum ≤ rules.lookahead → IsQuietRun s notes e
