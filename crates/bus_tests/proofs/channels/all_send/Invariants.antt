use Rattle.std.proofs.Common.{◌≡◌}
use Rattle.slack_base.specs.Numbers.{numbers_of}
use Rattle.bus_model.specs.Channels.{bus_setting}
use Rattle.bus_tests.specs.Playing.{setting_at}
use Rattle.bus_tests.proofs.channels.all_send.Given as goal

abbrev pub invariant-loop-exchange : goal.invariant-loop-exchange
invariant-loop-exchange l = (bus_setting l.channel.value ≡ setting_at (numbers_of l.config) l.bus) × (l.channel.saved ≡ l.fn.channel.saved)
