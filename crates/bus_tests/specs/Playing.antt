-- A channel that is gone through step by step.
use Rattle.std.specs.Prelude.{ℕ, ◌≡◌, Bool, true, Option, IfSome, IsSome}
use Rattle.std.specs.Option.{option_map}
use Rattle.slack_base.specs.Marks.{Marked}
use Rattle.slack_base.specs.declared.configs.RawConfig.{RawConfig}
use Rattle.bus_model.specs.Channels.{ChannelValue, bus_setting}
use Rattle.bus_model.specs.Settings.{SettingValue, setting_of}

-- the setting of the bus of a number, and of the console, which has none
abbrev pub setting_at : RawConfig → Option ℕ → Option SettingValue
setting_at config bus = option_map (setting_of config) bus

-- the channel has this setting, and had it at its mark; where the flag is up, there is a mark
pub record IsPlayed (setting : Option SettingValue) (marked : Bool) (c : Marked ChannelValue) : Type 0 where
  pub now : bus_setting c.value ≡ setting
  pub saved : IfSome c.saved (λ v. bus_setting v ≡ setting)
  pub flag : marked ≡ true → IsSome c.saved
