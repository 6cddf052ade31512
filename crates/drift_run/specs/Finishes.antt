-- What a drift hands back, whichever way its legs were run.
use Rattle.std.specs.Prelude.{◌≡◌, ℕ, ◌+◌, List}
use Rattle.core_actor.specs.declared.actors.CoreActor.{CoreActor}
use Rattle.drive_script.specs.Scripts.{IsExactIfQuiet}
use Rattle.io_edge.specs.Holds.{Holds}
use Rattle.manager.specs.declared.managers.Manager.{Manager}
use Rattle.target_law.specs.declared.states.Drifted.{Drifted}
use Rattle.target_law.specs.declared.states.State.{State}
use Rattle.target_law.specs.Drifts.{IsDrift}
use Rattle.target_law.specs.InSight.{rules_in_sight, owns_in_sight, values_in_sight}
use Rattle.target_law.specs.Marks.{SameMarks}
use Rattle.target_law.specs.Proper.{IsProper}
use Rattle.target_law.specs.Rules.{Rules, Owns}
use Rattle.target_law.specs.Values.{Values}
use Rattle.target_law.specs.Views.{state_of}
use Rattle.violation_watch.specs.Scan.{scan_of}
use Rattle.drift_run.specs.Holds.{KeepsHolds}
use Rattle.drift_run.specs.Rigs.{HaveLeft}

module _ {Inner Chan : Type 0} (rules : Rules Inner Chan) (owns : Owns Inner Chan) {T Core D : Type 0} (values : Values Core D Inner Chan) where
  -- a drift over so many cycles, with its end and what was seen of it
  pub record IsWhole (before : State T Core D) (slack cycles : ℕ) (gate : Holds) (r : Drifted T Core D) : Type 0 where
    pub drift : IsDrift rules (state_of values before) r.drift (state_of values r.end)
    pub marks : SameMarks values before r.end
    pub len : r.drift.len ≡ cycles
    pub proper : IsProper rules owns (state_of values r.end)
    pub seen : r.seen ≡ scan_of rules r.drift
    pub exact : IsExactIfQuiet rules (state_of values before) r.drift r.seen (state_of values r.end)
    pub holds : KeepsHolds gate rules.cores slack before.clock cycles r.drift.served

  -- what legs have left of a state, the marks in sight
  abbrev pub HaveLeftInSight : (before : State T Core D) (slack : ℕ) (gate : Holds) (end : ℕ) → Manager D → List (CoreActor Core) → Type 0
  HaveLeftInSight before slack gate end n left =
      HaveLeft (rules_in_sight rules) (owns_in_sight owns) (values_in_sight values) (state_of (values_in_sight values) before) slack gate end n left

  -- it is one from each state at this clock of which legs have left these, the marks in sight
  abbrev pub IsWholeOfEach : (start cycles : ℕ) → Manager D → List (CoreActor Core) → Drifted T Core D → Type 0
  IsWholeOfEach start cycles n left r =
      (before : State T Core D) (slack : ℕ) (gate : Holds) → before.clock ≡ start
      → HaveLeftInSight before slack gate (start + cycles) n left
      → IsWhole before slack cycles gate r
