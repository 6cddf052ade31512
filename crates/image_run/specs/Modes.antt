-- How a run goes in each mode.
use Rattle.std.specs.Prelude.{ℕ, Bool, true, false, List, min, nat_le}
use Rattle.slack_base.specs.declared.configs.RawConfig.{RawConfig}
use Rattle.slack_base.specs.declared.steps.Step.{Step as GivenStep}
use Rattle.bus_model.specs.Laws.{lookahead_of}
use Rattle.bus_model.specs.Settings.{delays_of}
use Rattle.sim_words.specs.declared.values.Mode.{Mode}
use Rattle.sim_words.specs.declared.values.Mode.TheVariants.{Lockstep, Quantum, Bounded, Speculative, Script}
use Rattle.target_law.specs.Rules.{Rules}
use Rattle.target_law.specs.Runs.{Step, IsExact}
use Rattle.violation_watch.specs.BoundedNotes.{IsBoundedBy}
use Rattle.drive_script.specs.Scripts.{IsScriptOf}
use Rattle.pacing.specs.Pieces.{IsPieces}
use Rattle.io_edge.specs.Holds.{Holds}
use Rattle.drift_run.specs.BoundedRuns.{IsHolding}
use Rattle.spec_run.specs.Speculative.{IsSpeculated}

-- the modes whose runs end as lockstep does; quantum mode is one where a piece is no longer than the least time from an ask
-- to its post
abbrev pub is_exact : Mode → RawConfig → Bool
is_exact Lockstep config = true
is_exact Quantum config = nat_le config.quantum (lookahead_of (delays_of config))
is_exact Bounded config = false
is_exact Speculative config = true
is_exact Script config = false

-- the modes that note each interval
abbrev pub is_noted : Mode → Bool
is_noted Lockstep = false
is_noted Quantum = true
is_noted Bounded = true
is_noted Speculative = true
is_noted Script = true

-- the cycle that a run doesn't pass: a given interleaving is of one interval
abbrev pub limit_in : Mode → RawConfig → ℕ
limit_in Lockstep config = config.limit
limit_in Quantum config = config.limit
limit_in Bounded config = config.limit
limit_in Speculative config = config.limit
limit_in Script config = min config.interval config.limit

-- what an interval may do, under a gate that holds cores so
abbrev pub step_in : {Inner Chan : Type 0} → (rules : Rules Inner Chan) → Holds → Mode → RawConfig → List GivenStep → Step rules
step_in rules holds Lockstep config steps = IsExact rules
step_in rules holds Quantum config steps = IsBoundedBy rules (IsPieces rules config.quantum)
step_in rules holds Bounded config steps = IsBoundedBy rules (IsHolding rules holds config.slack)
step_in rules holds Speculative config steps = IsSpeculated rules holds config.slack
step_in rules holds Script config steps = IsBoundedBy rules (IsScriptOf rules steps)
