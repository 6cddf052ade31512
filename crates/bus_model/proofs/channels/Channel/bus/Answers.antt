use Rattle.std.proofs.Common.{Some, ap}
use Rattle.bus_model.specs.Channels.{BusValue}
use Rattle.bus_model.specs.Starting.{first_bus}
use Rattle.bus_model.proofs.channels.Channel.bus.Goals as goal

pub returns-clause-setting : goal.returns-clause-setting
unfolding first_bus
returns-clause-setting c = ap (λ (b : BusValue). Some b.setting) c.in_ok-bus.ensures.value
