use Rattle.std.proofs.Common.{◌≡◌, ◌++◌, take}
use Rattle.std.specs.List.{flat_map}
use Rattle.lockstep_model.specs.Views.{values_of}
use Rattle.stat_report.specs.Report.{bus_line}
use Rattle.stat_report.proofs.reports.push_buses.Given as goal

-- the lines so far are appended
abbrev pub invariant-loop-chan : goal.invariant-loop-chan
invariant-loop-chan l = l.text ≡ l.fn.text ++ flat_map bus_line (values_of (take l.chan-index l.chans))
