-- The machine before the first cycle.
use Rattle.std.specs.Prelude.{ℕ, ◌≡◌, List, [], ◌∷◌, ◌++◌, None, map}
use Rattle.std.specs.List.{range_with_len}
use Rattle.slack_base.specs.declared.configs.RawConfig.{RawConfig}
use Rattle.slack_base.specs.declared.images.Image.{Image}
use Rattle.slack_base.specs.Inboxes.{CoreValue}
use Rattle.bus_model.specs.Channels.{ChannelValue, AsBus, AsConsole, IsSound}
use Rattle.bus_model.specs.Closing.{closed}
use Rattle.bus_model.specs.Laws.{HasSetting}
use Rattle.bus_model.specs.Settings.{setting_of}
use Rattle.bus_model.specs.Starting.{first_bus}
use Rattle.timed_core.specs.Cores.{HartValue, first_core}
use Rattle.target_law.specs.Cycles.{StateValue}

-- the core of a number: no post waits for it
abbrev pub first_core_value : RawConfig → (entry number : ℕ) → CoreValue HartValue
first_core_value config entry number = record { inner = first_core config entry number; inbox = [] }

-- the console with no bytes, closed
abbrev pub first_console : ChannelValue
first_console = AsConsole (record { bytes = []; highest = None })

-- the buses, in the order of their numbers, with the image's bytes in memory
abbrev pub first_buses : RawConfig → Image → List ChannelValue
first_buses config image = map (λ number. AsBus (first_bus config image number)) (range_with_len 0 config.buses)

abbrev pub start_of : RawConfig → Image → StateValue HartValue ChannelValue
start_of config image = record {
  clock = 0;
  cores = map (first_core_value config image.entry) (range_with_len 0 config.cores);
  chans = first_buses config image ++ first_console ∷ [];
}

-- the machine's channel of this number, closed
pub record IsFirstChannel (config : RawConfig) (number : ℕ) (chan : ChannelValue) : Type 0 where
  pub setting : HasSetting (setting_of config number) chan
  pub sound : IsSound chan
  pub is_closed : closed chan ≡ chan
