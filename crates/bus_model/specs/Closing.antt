-- Which asks a channel can't serve as if they came in the order of their ids, and what closing it does.
use Rattle.std.specs.Prelude.{Option, None, []}
use Rattle.slack_base.specs.declared.messages.Ask.{Ask}
use Rattle.slack_base.specs.declared.stamps.Id.{Id}
use Rattle.slack_base.specs.HighestIds.{clash_with}
use Rattle.slack_base.specs.Messages.{id_of}
use Rattle.slot_calendar.specs.Slots.{last_end}
use Rattle.slot_calendar.specs.Asks.{clash_of}
use Rattle.bus_model.specs.Channels.{BusValue, ChannelValue, AsBus, AsConsole}
use Rattle.bus_model.specs.Serving.{for_bus}

-- on a bus the greatest id above the ask's own that has the bus before the ask, granted behind all lower ids, would be done
-- with it; on the console the greatest id since it was closed, where that is above the ask's
abbrev pub clash : ChannelValue → Ask → Option Id
clash (AsBus b) ask = clash_of b.setting.occupancy b.free (for_bus ask) b.slots
clash (AsConsole c) ask = clash_with c.highest (id_of ask)

-- a bus that is closed is free once all its slots have ended, and has an empty calendar
abbrev pub bus_closed : BusValue → BusValue
bus_closed b = record b { free = last_end b.setting.occupancy b.free b.slots; slots = [] }

-- the console that is closed forgets the greatest id; nothing else changes of a channel
abbrev pub closed : ChannelValue → ChannelValue
closed (AsBus b) = AsBus (bus_closed b)
closed (AsConsole c) = AsConsole (record c { highest = None })
