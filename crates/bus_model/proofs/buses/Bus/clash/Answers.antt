use Rattle.std.proofs.Common.{◌∙◌, ap}
use Rattle.slack_base.specs.declared.stamps.Id.{Id}
use Rattle.slack_base.specs.Marks.{Marked}
use Rattle.slot_calendar.specs.Asks.{clash_of}
use Rattle.bus_model.specs.Channels.{BusValue}
use Rattle.bus_model.specs.Serving.{for_bus}
use Rattle.bus_model.specs.Views.{bus_now}
use Rattle.bus_model.proofs.buses.Bus.clash.Goals as goal

pub returns : goal.returns
returns c =
    let b = bus_now c.self.inside in
    c.clash.ensures.value
    ∙ ap (λ (x : Id). clash_of b.setting.occupancy b.free (record { id = x; stamp = x.cycle }) b.slots) c.id-id.ensures
    ∙ ap (λ (v : Marked BusValue). clash_of v.value.setting.occupancy v.value.free (for_bus c.args.ask.now) v.value.slots) c.self.view_is
