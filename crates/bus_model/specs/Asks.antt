-- Which asks a channel may be asked.
use Rattle.std.specs.Prelude.{ℕ, ◌≡◌, ◌%◌, ◌<◌, ◌≤◌, Option, None, Some}
use Rattle.slack_base.specs.declared.bounds.TheConstants.{TOP}
use Rattle.slack_base.specs.declared.messages.Ask.{Ask}
use Rattle.slack_base.specs.Messages.{id_of, line_of}
use Rattle.bus_model.specs.Settings.{SettingValue}
use Rattle.bus_model.specs.Channels.{ChannelValue, bus_setting}

-- the number of the channel that an ask is of: the lines go round the buses, and the console comes after these
abbrev pub channel_of_line : ℕ → Option ℕ → ℕ
channel_of_line buses None = buses
channel_of_line buses (Some line) = line % buses

abbrev pub channel_of : ℕ → Ask → ℕ
channel_of buses ask = channel_of_line buses (line_of ask)

-- the line is one of so many
abbrev pub IsLine : ℕ → Option ℕ → Type 0
IsLine lines None = Unit {0}
IsLine lines (Some line) = line < lines

-- an ask of one of the machine's cores, by the cycle where clocks stop, for a line of memory if for one at all
pub record IsProperAsk (cores lines : ℕ) (ask : Ask) : Type 0 where
  pub core : (id_of ask).core < cores
  pub cycle : (id_of ask).cycle ≤ TOP
  pub line : IsLine lines (line_of ask)

-- a proper ask that is of the channel with this setting
pub record IsAskOf (s : SettingValue) (ask : Ask) : Type 0 where
  pub proper : IsProperAsk s.cores s.lines ask
  pub own : channel_of s.buses ask ≡ s.number

abbrev pub IsAskAt : Option SettingValue → Ask → Type 0
IsAskAt None ask = Unit {0}
IsAskAt (Some s) ask = IsAskOf s ask

-- the channel may be asked: a bus only what is of it, and the console anything, though only a byte changes its bytes
abbrev pub MayServe : ChannelValue → Ask → Type 0
MayServe c ask = IsAskAt (bus_setting c) ask

-- the line is one of memory and of the bus with this setting
pub record IsLineOf (s : SettingValue) (line : ℕ) : Type 0 where
  pub inside : line < s.lines
  pub own : line % s.buses ≡ s.number

abbrev pub IsLineAt : Option SettingValue → ℕ → Type 0
IsLineAt None line = ⊥
IsLineAt (Some s) line = IsLineOf s line

-- the channel is a bus, and the line is one of it
abbrev pub HasLine : ChannelValue → ℕ → Type 0
HasLine c line = IsLineAt (bus_setting c) line
