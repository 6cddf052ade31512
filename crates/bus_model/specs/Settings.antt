-- What a channel needs to know of its machine.
use Rattle.std.specs.Prelude.{ℕ}
use Rattle.slack_base.specs.declared.configs.RawConfig.{RawConfig}
use Rattle.slack_base.specs.Numbers.{lines_of}
use Rattle.status_map.specs.declared.views.Delays.{Delays}
use Rattle.bus_model.specs.declared.settings.Setting.{Setting}

-- the channel's number, the machine's buses, lines of memory and cores, how long after its grant a post is due, and
-- for how many cycles an ask takes its bus
pub record SettingValue : Type 0 where
  pub number : ℕ
  pub buses : ℕ
  pub lines : ℕ
  pub cores : ℕ
  pub delays : Delays
  pub occupancy : ℕ

abbrev pub delays_of : RawConfig → Delays
delays_of config = record { snoop = config.snoop; memory = config.memory_delay; transfer = config.transfer }

-- the setting of the channel of a number in a machine of this configuration
abbrev pub setting_of : RawConfig → ℕ → SettingValue
setting_of config number = record {
  number = number;
  buses = config.buses;
  lines = lines_of config;
  cores = config.cores;
  delays = delays_of config;
  occupancy = config.occupancy;
}

-- what the code's settings are
abbrev pub setting_value : Setting → SettingValue
setting_value s = record {
  number = s.number;
  buses = s.buses;
  lines = s.lines;
  cores = s.cores;
  delays = s.delays;
  occupancy = s.occupancy;
}
