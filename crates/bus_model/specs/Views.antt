-- What the code's buses and consoles are, now and at their marks.
use Rattle.std.specs.Prelude.{◌+◌, ◌≡◌, ◌<◌, ◌≤◌, List, [], IfSome, IfNone, length, take}
use Rattle.std.specs.Option.{option_map}
use Rattle.slack_base.specs.declared.bounds.TheConstants.{TOP}
use Rattle.slack_base.specs.Marks.{Marked}
use Rattle.status_map.specs.declared.views.EntryView.{EntryView}
use Rattle.slot_calendar.specs.declared.slots.Slot.{Slot}
use Rattle.bus_model.specs.declared.buses.Bus.TheInside.{Inside as BusInside}
use Rattle.bus_model.specs.declared.buses.BusMark.{BusMark}
use Rattle.bus_model.specs.declared.consoles.Console.TheInside.{Inside as ConsoleInside}
use Rattle.bus_model.specs.declared.consoles.ConsoleMark.{ConsoleMark}
use Rattle.bus_model.specs.declared.counters.Counters.{Counters}
use Rattle.bus_model.specs.Settings.{SettingValue, setting_value}
use Rattle.bus_model.specs.Channels.{BusValue, ConsoleValue, IsSoundBus}
use Rattle.bus_model.specs.Journals.{restored}

-- a bus with these parts
abbrev pub bus_with : SettingValue → Counters → List EntryView → List Slot → BusValue
bus_with setting c entries slots = record {
  setting = setting;
  free = c.free;
  asks = c.asks;
  retries = c.retries;
  entries = entries;
  slots = slots;
}

abbrev pub bus_now : BusInside → BusValue
bus_now b = bus_with (setting_value b.setting) b.counters b.lines.entries b.calendar

-- the bus at its mark: it counted what was kept there, with the calendar that was kept, and its entries are those of now
-- with the journal's put back
abbrev pub bus_then : BusInside → BusMark → BusValue
bus_then b mark = bus_with (setting_value b.setting) mark.counters (restored b.lines.entries b.lines.journal) mark.calendar

abbrev pub bus_of : BusInside → Marked BusValue
bus_of b = record { value = bus_now b; saved = option_map (bus_then b) b.mark }

-- the bus is sound and was so at its mark; the journal is no longer than asks were served since then, while they are
-- counted, and empty where there is no mark
pub record IsSoundInside (b : BusInside) : Type 0 where
  pub now : IsSoundBus (bus_now b)
  pub saved : IfSome b.mark (λ mark. IsSoundBus (bus_then b mark))
  pub few : IfSome b.mark (λ mark. b.counters.asks < TOP → mark.counters.asks + length b.lines.journal ≤ b.counters.asks)
  pub unmarked : IfNone b.mark (b.lines.journal ≡ [])

-- the console at its mark: the bytes that it had by then are the first ones
abbrev pub console_then : ConsoleInside → ConsoleMark → ConsoleValue
console_then c mark = record { bytes = take mark.count c.bytes.items; highest = mark.highest }

abbrev pub console_of : ConsoleInside → Marked ConsoleValue
console_of c = record {
  value = record { bytes = c.bytes.items; highest = c.highest };
  saved = option_map (console_then c) c.mark;
}

-- the console had no more bytes than now
abbrev pub HadBytes : ConsoleInside → Type 0
HadBytes c = IfSome c.mark (λ mark. mark.count ≤ length c.bytes.items)
