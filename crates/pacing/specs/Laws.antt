-- What is so of all drifts in pieces.
use Rattle.std.specs.Prelude.{◌≡◌, ◌+◌, ◌≤◌, ℕ, []}
use Rattle.slack_base.specs.declared.bounds.TheConstants.{TOP}
use Rattle.slack_base.specs.declared.histories.Drift.{Drift}
use Rattle.target_law.specs.Cycles.{StateValue}
use Rattle.target_law.specs.Drifts.{IsDrift}
use Rattle.target_law.specs.Proper.{IsProper}
use Rattle.target_law.specs.Rules.{Rules, Owns}
use Rattle.violation_watch.specs.Scan.{scan_of}
use Rattle.pacing.specs.Pieces.{IsPieces}

module _ {Inner Chan : Type 0} (rules : Rules Inner Chan) where
  -- pieces have one drift and one end
  abbrev pub AllOneOutcome : Type 0
  AllOneOutcome =
      (quantum k : ℕ) (s : StateValue Inner Chan) (d d2 : Drift) (e e2 : StateValue Inner Chan)
      → IsPieces rules quantum k s d e → IsPieces rules quantum k s d2 e2 → (d ≡ d2) × (e ≡ e2)

  module _ (owns : Owns Inner Chan) where
    -- a drift from the state to its end, which is proper
    pub record IsProperDrift (s : StateValue Inner Chan) (d : Drift) (e : StateValue Inner Chan) : Type 0 where
      pub drift : IsDrift rules s d e
      pub proper : IsProper rules owns e

    abbrev pub AllDrift : Type 0
    AllDrift =
        (quantum k : ℕ) (s : StateValue Inner Chan) (d : Drift) (e : StateValue Inner Chan)
        → IsProper rules owns s → s.clock + k ≤ TOP → IsPieces rules quantum k s d e → IsProperDrift s d e

    -- where a piece is no longer than the least time from an ask to its post, the monitors record nothing
    abbrev pub AllQuiet : Type 0
    AllQuiet =
        (quantum k : ℕ) (s : StateValue Inner Chan) (d : Drift) (e : StateValue Inner Chan)
        → IsProper rules owns s → s.clock + k ≤ TOP → quantum ≤ rules.lookahead → IsPieces rules quantum k s d e → scan_of rules d ≡ []
