-- What the code's channels are.
use Rattle.std.specs.Prelude.{Option}
use Rattle.std.specs.Option.{option_map}
use Rattle.bus_model.specs.declared.channels.Kind.{Kind}
use Rattle.bus_model.specs.declared.channels.Kind.TheVariants.{Bus as BusKind, Console as ConsoleKind}
use Rattle.bus_model.specs.Channels.{ChannelValue, AsBus, AsConsole}

abbrev pub value_of : Kind → ChannelValue
value_of (BusKind b) = AsBus b.value
value_of (ConsoleKind c) = AsConsole c.value

-- what was at the mark, where there is one
abbrev pub saved_of : Kind → Option ChannelValue
saved_of (BusKind b) = option_map AsBus b.saved
saved_of (ConsoleKind c) = option_map AsConsole c.saved
