use Rattle.std.proofs.Common.{◌≡◌, None}
use Rattle.bus_model.specs.Channels.{bus_setting}
use Rattle.report_tests.proofs.consoles.console_of_all.Given as goal

abbrev pub invariant-loop-byte : goal.invariant-loop-byte
invariant-loop-byte l = bus_setting l.console.value ≡ None
