-- The drift of a given interleaving.
use Rattle.std.specs.Prelude.{◌≡◌, ℕ, ◌+◌, ◌≤◌, List, [], map}
use Rattle.slack_base.specs.declared.bounds.TheConstants.{TOP}
use Rattle.slack_base.specs.declared.histories.Drift.{Drift}
use Rattle.slack_base.specs.declared.histories.Violation.{Violation}
use Rattle.slack_base.specs.declared.steps.Step.{Step}
use Rattle.slack_base.specs.Inboxes.{CoreValue}
use Rattle.target_law.specs.Cycles.{StateValue}
use Rattle.target_law.specs.Drifts.{IsDrift}
use Rattle.target_law.specs.Proper.{IsProper}
use Rattle.target_law.specs.Rules.{Rules, Owns}
use Rattle.violation_watch.specs.Complete.{IsLockstep}
use Rattle.drive_script.specs.Finishing.{Finishes}
use Rattle.drive_script.specs.Worlds.{LaneValue, WorldValue, stepped_all}

-- a core at the start's clock, for which nothing waits
abbrev pub begun : {Inner : Type 0} → (clock : ℕ) → CoreValue Inner → LaneValue Inner
begun clock core = record { core = core; clock = clock; asks = []; posts = []; taken = [] }

module _ {Inner Chan : Type 0} where
  -- the world before the first step of an interleaving over k cycles
  abbrev pub opened : StateValue Inner Chan → (k : ℕ) → WorldValue Inner Chan
  opened s k = record { end = s.clock + k; lanes = map (begun s.clock) s.cores; chans = s.chans; served = []; clashes = [] }

  -- the history of the world, which began at this clock
  abbrev pub history : (start k : ℕ) → WorldValue Inner Chan → Drift
  history start k w = record { start = start; len = k; served = w.served; clashes = w.clashes; sent = map (λ lane. lane.taken) w.lanes }

module _ {Inner Chan : Type 0} (rules : Rules Inner Chan) where
  -- the state that the world is left as: its channels are closed
  abbrev pub closed : WorldValue Inner Chan → StateValue Inner Chan
  closed w = record { clock = w.end; cores = map (λ lane. lane.core) w.lanes; chans = map rules.close w.chans }

  -- over k cycles from a state the steps, and then finishing, leave this history and this state
  pub record IsScript (s : StateValue Inner Chan) (k : ℕ) (steps : List Step) (d : Drift) (e : StateValue Inner Chan) : Type 0 where
    pub world : WorldValue Inner Chan
    pub finishes : Finishes rules (stepped_all rules steps (opened s k)) world
    pub drift : d ≡ history s.clock k world
    pub end : e ≡ closed world

  -- the drifts of these steps
  abbrev pub IsScriptOf : List Step → (k : ℕ) → StateValue Inner Chan → Drift → StateValue Inner Chan → Type 0
  IsScriptOf steps k s d e = IsScript s k steps d e

  -- where nothing was seen, the drift ended as lockstep does, and served its asks
  abbrev pub IsExactIfQuiet : (s : StateValue Inner Chan) → Drift → (seen : List Violation) → (e : StateValue Inner Chan) → Type 0
  IsExactIfQuiet s d seen e = seen ≡ [] → IsLockstep rules s d e

  -- an interleaving has one drift and one end
  abbrev pub AllOneScript : Type 0
  AllOneScript =
      (s : StateValue Inner Chan) (k : ℕ) (steps : List Step) (d d2 : Drift) (e e2 : StateValue Inner Chan)
      → IsScript s k steps d e → IsScript s k steps d2 e2 → (d ≡ d2) × (e ≡ e2)

  -- it is a drift from the state to its end
  abbrev pub AllDrift : Owns Inner Chan → Type 0
  AllDrift owns =
      (s : StateValue Inner Chan) (k : ℕ) (steps : List Step) (d : Drift) (e : StateValue Inner Chan)
      → IsProper rules owns s → s.clock + k ≤ TOP → IsScript s k steps d e → IsDrift rules s d e
