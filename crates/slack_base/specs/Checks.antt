-- Checks in their order: each is a test, with the fault where it fails.
use Rattle.std.specs.Prelude.{◌≡◌, Bool, List, [], ◌∷◌, Option, Some, None, Result, Ok, Err, MatchResult, if◌then◌else◌}

-- the fault of the first check that fails
abbrev pub first_fault : {Fault : Type 0} → List (Bool × Fault) → Option Fault
first_fault [] = None
first_fault (check ∷ checks) = if check.0 then first_fault checks else Some check.1

-- the first fault, or else the other
abbrev pub or_else : {Fault : Type 0} → Option Fault → Option Fault → Option Fault
or_else None other = other
or_else (Some fault) other = Some fault

-- what is accepted where there is no fault
abbrev pub unless_fault : {X Fault : Type 0} → Option Fault → X → Result X Fault
unless_fault None x = Ok x
unless_fault (Some fault) x = Err fault

-- a reading that answers the value where there is no fault, and else the fault
abbrev pub Reads : {X Fault : Type 0} → Option Fault → X → Result X Fault → Type 0
Reads fault x result = MatchResult result (λ y. (fault ≡ None) × (y ≡ x)) (λ f. fault ≡ Some f)
