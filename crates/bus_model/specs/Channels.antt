-- What a channel is.
use Rattle.std.specs.Prelude.{ℕ, ◌/◌, ◌%◌, ◌==◌, ◌≡◌, ◌<◌, ◌≤◌, List, [], Option, None, Some, All, length, slice_get, if◌then◌else◌}
use Rattle.slack_base.specs.declared.bounds.TheConstants.{TOP}
use Rattle.slack_base.specs.declared.stamps.Id.{Id}
use Rattle.status_map.specs.declared.views.EntryView.{EntryView}
use Rattle.status_map.specs.Entries.{NamesBelow}
use Rattle.slot_calendar.specs.declared.slots.Slot.{Slot}
use Rattle.bus_model.specs.Settings.{SettingValue}

-- a bus: the cycle from which it was free when it was closed last, the asks that it has served and the retries that it has
-- sent, the entries of its lines in the order of the lines, and its calendar: the slots of the asks that it granted since it
-- was closed, in the order of their ids
pub record BusValue : Type 0 where
  pub setting : SettingValue
  pub free : ℕ
  pub asks : ℕ
  pub retries : ℕ
  pub entries : List EntryView
  pub slots : List Slot

-- the console: the bytes that were put on it, and the greatest id that it served since it was closed
pub record ConsoleValue : Type 0 where
  pub bytes : List ℕ
  pub highest : Option Id

pub data ChannelValue : Type 0 where
  AsBus : BusValue → ChannelValue
  AsConsole : ConsoleValue → ChannelValue

-- the setting of a bus: none of the console
abbrev pub bus_setting : ChannelValue → Option SettingValue
bus_setting (AsBus b) = Some b.setting
bus_setting (AsConsole c) = None

-- the entry of a line of the bus: the bus has every line whose number has its own for a remainder
abbrev pub entry_of : BusValue → ℕ → Option EntryView
entry_of b line = slice_get b.entries (line / b.setting.buses)

-- what a reader of a channel sees
abbrev pub entry_at : ChannelValue → ℕ → Option EntryView
entry_at (AsBus b) line = entry_of b line
entry_at (AsConsole c) line = None

-- the entry of a line, where the line is one of the bus, and where the channel is a bus that has it
abbrev pub found_on : BusValue → ℕ → Option EntryView
found_on b line = if line % b.setting.buses == b.setting.number then entry_of b line else None

abbrev pub found_entry : ChannelValue → ℕ → Option EntryView
found_entry (AsBus b) line = found_on b line
found_entry (AsConsole c) line = None

-- the number of a bus: none of the console
abbrev pub number_of : ChannelValue → Option ℕ
number_of (AsBus b) = Some b.setting.number
number_of (AsConsole c) = None

abbrev pub free_of : ChannelValue → ℕ
free_of (AsBus b) = b.free
free_of (AsConsole c) = 0

abbrev pub asks_of : ChannelValue → ℕ
asks_of (AsBus b) = b.asks
asks_of (AsConsole c) = 0

abbrev pub retries_of : ChannelValue → ℕ
retries_of (AsBus b) = b.retries
retries_of (AsConsole c) = 0

abbrev pub entries_of : ChannelValue → List EntryView
entries_of (AsBus b) = b.entries
entries_of (AsConsole c) = []

abbrev pub count_of : ChannelValue → ℕ
count_of (AsBus b) = length b.entries
count_of (AsConsole c) = 0

abbrev pub bytes_of : ChannelValue → List ℕ
bytes_of (AsBus b) = []
bytes_of (AsConsole c) = c.bytes

-- a bus that has an entry for each of its lines, whose numbers are no greater than where they stop, and whose entries
-- name cores of the machine alone
pub record IsSoundBus (b : BusValue) : Type 0 where
  pub number : b.setting.number < b.setting.buses
  pub count : length b.entries ≡ b.setting.lines / b.setting.buses
  pub free : b.free ≤ TOP
  pub asks : b.asks ≤ TOP
  pub retries : b.retries ≤ TOP
  pub named : All (λ e. NamesBelow b.setting.cores e.kind) b.entries

abbrev pub IsSound : ChannelValue → Type 0
IsSound (AsBus b) = IsSoundBus b
IsSound (AsConsole c) = Unit {0}
