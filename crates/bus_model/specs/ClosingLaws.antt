-- What closing keeps, and of which asks it makes no difference whether they come in the order of their ids.
use Rattle.std.specs.Prelude.{◌≡◌, ◌≢◌, ◌≤◌, ◌/◌, ℕ, IsTrue, List, Option, None, Some, IfSome}
use Rattle.std.specs.List.{AllByRecursion as Each}
use Rattle.slack_base.specs.declared.messages.Ask.{Ask}
use Rattle.slack_base.specs.Messages.{id_of, line_of}
use Rattle.slack_base.specs.Stamps.{is_above}
use Rattle.bus_model.specs.Settings.{SettingValue}
use Rattle.bus_model.specs.Channels.{ChannelValue, AsBus, AsConsole, IsSound, free_of}
use Rattle.bus_model.specs.Serving.{served, served_all}
use Rattle.bus_model.specs.Closing.{clash, closed}
use Rattle.bus_model.specs.Laws.{HasSetting}

-- a closed channel is sound and has its setting, as before, and is free no sooner; closing it again changes nothing
pub record IsClosed (s : SettingValue) (before after : ChannelValue) : Type 0 where
  pub sound : IsSound after
  pub same : HasSetting s after
  pub free : free_of before ≤ free_of after
  pub once : closed after ≡ after

abbrev pub AllClose : Type 0
AllClose = (s : SettingValue) (c : ChannelValue) → IsSound c → HasSetting s c → IsClosed s c (closed c)

-- these asks have ids below that of x
abbrev pub AllBelow : Ask → List Ask → Type 0
AllBelow x asks = Each (λ y. IsTrue (is_above (id_of x) (id_of y))) asks

-- the ask has an id above all that the channel keeps since it was closed
abbrev pub IsLast : Ask → ChannelValue → Type 0
IsLast x (AsBus b) = Each (λ s. IsTrue (is_above (id_of x) s.id)) b.slots
IsLast x (AsConsole c) = IfSome c.highest (λ high. IsTrue (is_above (id_of x) high))

-- the ask clashes with nothing, and sees nothing of a closing just before it
pub record IsReopened (c : ChannelValue) (ask : Ask) : Type 0 where
  pub free : clash c ask ≡ None
  pub posts : (served (closed c) ask).1 ≡ (served c ask).1
  pub value : closed (served (closed c) ask).0 ≡ closed (served c ask).0

abbrev pub AllReopen : Type 0
AllReopen = (c : ChannelValue) (ask : Ask) → IsLast ask c → IsReopened c ask

-- after some asks on a closed channel one with an id above all of theirs is such an ask
abbrev pub AllLast : Type 0
AllLast = (c : ChannelValue) (asks : List Ask) (x : Ask) → closed c ≡ c → AllBelow x asks → IsLast x (served_all c asks).0

-- the lines of two asks, if both have one, have different places on a bus
abbrev pub AreLinesApart : (buses : ℕ) → Option ℕ → Option ℕ → Type 0
AreLinesApart buses None other = Unit {0}
AreLinesApart buses (Some line) None = Unit {0}
AreLinesApart buses (Some line) (Some other) = line / buses ≢ other / buses

abbrev pub AreApart : ChannelValue → Ask → Ask → Type 0
AreApart (AsBus b) x y = AreLinesApart b.setting.buses (line_of x) (line_of y)
AreApart (AsConsole c) x y = Unit {0}

-- the channel makes the same of two asks in either order, and the first of them has no clash in either
pub record IsSwap (c : ChannelValue) (x y : Ask) : Type 0 where
  pub free : clash c x ≡ None
  pub value : (served (served c y).0 x).0 ≡ (served (served c x).0 y).0
  pub posts_x : (served (served c y).0 x).1 ≡ (served c x).1
  pub posts_y : (served (served c x).0 y).1 ≡ (served c y).1

-- x has the lower id, y one above all others, their lines are different ones, and x doesn't clash behind y
abbrev pub AllSwap : Type 0
AllSwap =
    (c : ChannelValue) (x y : Ask)
    → IsTrue (is_above (id_of y) (id_of x)) → IsLast y c → AreApart c x y → clash (served c y).0 x ≡ None → IsSwap c x y
