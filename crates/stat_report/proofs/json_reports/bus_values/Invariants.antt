use Rattle.std.proofs.Common.{◌≡◌, map, filter, take}
use Rattle.serde_json.specs.View.{view}
use Rattle.lockstep_model.specs.Views.{values_of}
use Rattle.stat_report.specs.Json.{bus_data, has_number}
use Rattle.stat_report.proofs.json_reports.bus_values.Given as goal

-- the buses so far
abbrev pub invariant-loop-chan : goal.invariant-loop-chan
invariant-loop-chan l = map view l.values.items ≡ map bus_data (filter has_number (values_of (take l.chan-index l.chans)))
