use Rattle.std.proofs.Common.{◌≡◌, map, take}
use Rattle.serde_json.specs.View.{view}
use Rattle.lockstep_model.specs.Views.{cores_of}
use Rattle.stat_report.specs.Json.{core_data}
use Rattle.stat_report.proofs.json_reports.core_values.Given as goal

-- the cores so far
abbrev pub invariant-loop-core : goal.invariant-loop-core
invariant-loop-core l = map view l.values.items ≡ map (core_data l.clock) (cores_of (take l.core-index l.cores))
