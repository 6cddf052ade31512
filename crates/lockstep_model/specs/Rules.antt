-- The RISC-V machine as a target.
use Rattle.std.specs.Prelude.{ℕ, ◌+◌, ◌&&◌, Bool, true, Option, Some, None, not, nat_lt, nat_le}
use Rattle.slack_base.specs.declared.bounds.TheConstants.{TOP}
use Rattle.slack_base.specs.declared.configs.RawConfig.{RawConfig}
use Rattle.slack_base.specs.Marks.{Marked}
use Rattle.slack_base.specs.Messages.{id_of, line_of}
use Rattle.slack_base.specs.Numbers.{lines_of}
use Rattle.bus_model.specs.Asks.{channel_of}
use Rattle.bus_model.specs.Channels.{ChannelValue, AsBus, AsConsole, IsSound}
use Rattle.bus_model.specs.Closing.{clash, closed}
use Rattle.bus_model.specs.Laws.{HasSetting, lookahead_of}
use Rattle.bus_model.specs.Serving.{served}
use Rattle.bus_model.specs.Settings.{delays_of, setting_of}
use Rattle.timed_core.specs.Code.{CodeValue}
use Rattle.timed_core.specs.Cores.{HartValue, is_running}
use Rattle.timed_core.specs.Laws.{IsSoundHart}
use Rattle.timed_core.specs.Ticks.{tick}
use Rattle.timed_core.specs.Touches.{touched_of}
use Rattle.timed_core.specs.Views.{MarkedCore}
use Rattle.target_law.specs.Rules.{Rules, Owns}
use Rattle.target_law.specs.Values.{Values}

-- the number of a channel: the console's comes after those of the buses
abbrev pub number_in : RawConfig → ChannelValue → ℕ
number_in config (AsBus b) = b.setting.number
number_in config (AsConsole c) = config.buses

-- the line, if there is one, is one of memory
abbrev pub is_line : RawConfig → Option ℕ → Bool
is_line config None = true
is_line config (Some line) = nat_lt line (lines_of config)

-- a machine of these numbers and this code: an ask is proper that is of one of its cores, by the cycle where clocks stop,
-- for a line of memory if for one at all; a post, that is to one of its cores and about a line of memory
abbrev pub rules_of : RawConfig → CodeValue → Rules HartValue ChannelValue
rules_of config code = record {
  cores = config.cores;
  channels = config.buses + 1;
  lookahead = lookahead_of (delays_of config);
  core_number = λ hart. hart.number;
  chan_number = number_in config;
  is_proper_ask = λ ask. nat_lt (id_of ask).core config.cores && (nat_le (id_of ask).cycle TOP && is_line config (line_of ask));
  is_proper_post = λ p. nat_lt p.to config.cores && nat_lt p.line (lines_of config);
  channel_of = channel_of config.buses;
  tick = tick code;
  serve = served;
  clash = clash;
  close = closed;
  touched = touched_of;
  has_ended = λ hart. not (is_running hart.ended);
}

-- a channel with the setting of its number
pub record IsOwnChannel (config : RawConfig) (chan : ChannelValue) : Type 0 where
  pub setting : HasSetting (setting_of config (number_in config chan)) chan
  pub sound : IsSound chan

-- the harts and channels of a machine of these numbers
abbrev pub owns_of : RawConfig → Owns HartValue ChannelValue
owns_of config = record { core = IsSoundHart config; chan = IsOwnChannel config }

-- a stored core and a stored channel are seen as their present values and those at their marks
abbrev pub stored_values : Values MarkedCore (Marked ChannelValue) HartValue ChannelValue
stored_values = record {
  core = λ core. core.value;
  chan = λ chan. chan.value;
  saved_core = λ core. core.saved;
  saved_chan = λ chan. chan.saved;
}
