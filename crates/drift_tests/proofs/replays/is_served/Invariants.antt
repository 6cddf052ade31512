use Rattle.std.proofs.Common.{◌≡◌, Some}
use Rattle.slack_base.specs.Numbers.{numbers_of}
use Rattle.bus_model.specs.Channels.{bus_setting}
use Rattle.bus_model.specs.Settings.{setting_of}
use Rattle.drift_tests.proofs.replays.is_served.Given as goal

-- the bus has the setting of its number
abbrev pub invariant-loop-ask : goal.invariant-loop-ask
invariant-loop-ask l = bus_setting l.bus.value ≡ Some (setting_of (numbers_of l.config) 0)
