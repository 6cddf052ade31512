-- A drift of which the monitors record nothing is lockstep.
use Rattle.std.specs.Prelude.{◌≡◌, ◌≤◌, []}
use Rattle.std.specs.List.Sorted.{IsPermutation}
use Rattle.slack_base.specs.declared.bounds.TheConstants.{TOP}
use Rattle.slack_base.specs.declared.histories.Drift.{Drift}
use Rattle.target_law.specs.Cycles.{StateValue, lockstep, asks}
use Rattle.target_law.specs.Drifts.{IsDrift}
use Rattle.target_law.specs.Proper.{IsProper}
use Rattle.target_law.specs.Rules.{Rules, Owns}
use Rattle.violation_watch.specs.Scan.{scan_of}

module _ {Inner Chan : Type 0} (rules : Rules Inner Chan) where
  -- the drift ended as lockstep does after as many cycles, and served the asks of lockstep, each once
  pub record IsLockstep (s : StateValue Inner Chan) (d : Drift) (e : StateValue Inner Chan) : Type 0 where
    pub end : e ≡ lockstep rules s d.len
    pub served : IsPermutation d.served (asks rules s d.len)

  abbrev pub AllComplete : Owns Inner Chan → Type 0
  AllComplete owns =
      (s : StateValue Inner Chan) (d : Drift) (e : StateValue Inner Chan) → IsProper rules owns s → IsDrift rules s d e → e.clock ≤ TOP
      → scan_of rules d ≡ [] → IsLockstep s d e
