use Rattle.std.proofs.Common.{◌≡◌, take}
use Rattle.std.specs.List.{flat_map}
use Rattle.bus_model.specs.Channels.{bytes_of}
use Rattle.lockstep_model.specs.Views.{values_of}
use Rattle.stat_report.proofs.reports.console_bytes.Given as goal

-- the bytes of the consoles so far
abbrev pub invariant-loop-chan : goal.invariant-loop-chan
invariant-loop-chan l = l.bytes ≡ flat_map bytes_of (values_of (take l.chan-index l.chans))
