-- What is true of any channel, whatever it is asked.
use Rattle.std.specs.Prelude.{ℕ, ◌+◌, ◌≡◌, ◌≢◌, ◌<◌, ◌≤◌, min, Some, All, AllPairs, List}
use Rattle.slack_base.specs.declared.messages.Ask.{Ask}
use Rattle.slack_base.specs.declared.messages.Post.{Post}
use Rattle.slack_base.specs.Messages.{id_of, line_of}
use Rattle.status_map.specs.declared.views.Delays.{Delays}
use Rattle.bus_model.specs.Settings.{SettingValue}
use Rattle.bus_model.specs.Channels.{ChannelValue, AsBus, AsConsole, IsSound, free_of}
use Rattle.bus_model.specs.Asks.{IsAskOf, MayServe}
use Rattle.bus_model.specs.Serving.{served}

-- the least number of cycles from an ask to a post that it causes
abbrev pub lookahead_of : Delays → ℕ
lookahead_of d = min d.snoop d.transfer

-- a reply out of memory takes no less than a snoop
abbrev pub IsSlowMemory : Delays → Type 0
IsSlowMemory d = d.snoop ≤ d.memory

-- the channel is the one with this setting: the console's number comes after those of the buses
abbrev pub HasSetting : SettingValue → ChannelValue → Type 0
HasSetting s (AsBus b) = b.setting ≡ s
HasSetting s (AsConsole c) = s.number ≡ s.buses

-- what a post of an ask is: it carries the ask's id and line, goes to one of the machine's cores and is due after the
-- lookahead at the soonest
pub record IsPostOf (s : SettingValue) (ask : Ask) (p : Post) : Type 0 where
  pub to : p.to < s.cores
  pub id : p.id ≡ id_of ask
  pub line : Some p.line ≡ line_of ask
  pub due : (id_of ask).cycle + lookahead_of s.delays ≤ p.due

-- a channel that was asked is sound, has its setting and is free from the same cycle as before; the posts are the ask's, and
-- no core gets two of them
pub record IsLawful (s : SettingValue) (ask : Ask) (before after : ChannelValue) (sent : List Post) : Type 0 where
  pub sound : IsSound after
  pub same : HasSetting s after
  pub free : free_of after ≡ free_of before
  pub posts : All (IsPostOf s ask) sent
  pub once : AllPairs (λ p q. p.to ≢ q.to) sent

abbrev pub AllLawful : Type 0
AllLawful =
    (s : SettingValue) (c : ChannelValue) (ask : Ask)
    → IsSlowMemory s.delays → IsSound c → HasSetting s c → IsAskOf s ask
    → IsLawful s ask c (served c ask).0 (served c ask).1

-- the channel with a setting may be asked what is of it
abbrev pub AllMayServe : Type 0
AllMayServe = (s : SettingValue) (c : ChannelValue) (ask : Ask) → HasSetting s c → IsAskOf s ask → MayServe c ask
