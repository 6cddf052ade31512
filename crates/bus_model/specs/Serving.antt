-- What an ask does to its channel, and the posts that come of it.
use Rattle.std.specs.Prelude.{ℕ, ◌+◌, ◌/◌, Bool, true, false, List, [], ◌∷◌, ◌++◌, Option, None, Some, count_by, slice_set}
use Rattle.slack_base.specs.declared.messages.Ask.{Ask}
use Rattle.slack_base.specs.declared.messages.Ask.TheVariants.{Put}
use Rattle.slack_base.specs.declared.messages.Post.{Post}
use Rattle.slack_base.specs.declared.messages.PostKind.{PostKind}
use Rattle.slack_base.specs.declared.messages.PostKind.TheVariants.{Retry}
use Rattle.slack_base.specs.declared.stamps.Id.{Id}
use Rattle.slack_base.specs.Growing.{capped, raised}
use Rattle.slack_base.specs.HighestIds.{later_of}
use Rattle.slack_base.specs.Messages.{id_of, line_of}
use Rattle.status_map.specs.declared.views.EntryView.{EntryView}
use Rattle.status_map.specs.Table.{serve}
use Rattle.slot_calendar.specs.Slots.{grant_in}
use Rattle.slot_calendar.specs.Asks.{BusAsk, with_ask}
use Rattle.bus_model.specs.Channels.{BusValue, ConsoleValue, ChannelValue, AsBus, AsConsole, entry_of}

abbrev pub is_retry_kind : PostKind → Bool
is_retry_kind Retry = true
is_retry_kind kind = false

abbrev pub is_retry : Post → Bool
is_retry p = is_retry_kind p.kind

-- an ask as the calendar of its bus sees it: its stamp is the cycle of its id
abbrev pub for_bus : Ask → BusAsk
for_bus ask = record { id = id_of ask; stamp = (id_of ask).cycle }

-- the calendar says when an ask gets the bus
abbrev pub grant_of : BusValue → Ask → ℕ
grant_of b ask = grant_in b.setting.occupancy b.free (id_of ask).cycle (id_of ask) b.slots

-- an ask for a line of the bus has it for some cycles from its grant on, which its slot says, and the status map says what
-- comes of the line's entry
unfoldable pub granted : BusValue → Ask → ℕ → EntryView → BusValue × List Post
granted b ask line entry =
    let grant = grant_of b ask in
    let s = serve b.setting.delays grant ask entry in (
      record b {
        asks = raised b.asks;
        retries = capped (b.retries + count_by is_retry s.posts);
        entries = slice_set b.entries (line / b.setting.buses) s.entry;
        slots = with_ask b.setting.occupancy b.free (for_bus ask) b.slots;
      },
      s.posts,
    )

-- an ask for no line of the bus isn't of the bus, and gets nothing
abbrev pub on_entry : BusValue → Ask → ℕ → Option EntryView → BusValue × List Post
on_entry b ask line None = (b, [])
on_entry b ask line (Some entry) = granted b ask line entry

abbrev pub on_line : BusValue → Ask → Option ℕ → BusValue × List Post
on_line b ask None = (b, [])
on_line b ask (Some line) = on_entry b ask line (entry_of b line)

unfoldable pub bus_served : BusValue → Ask → BusValue × List Post
bus_served b ask = on_line b ask (line_of ask)

-- the greatest id since the console was closed, with that of an ask
abbrev pub noted : Option Id → Ask → Option Id
noted highest ask = Some (later_of highest (id_of ask))

-- the console appends the byte of a Put
abbrev pub put_on : List ℕ → Ask → List ℕ
put_on bytes (Put id byte) = bytes ++ byte ∷ []
put_on bytes ask = bytes

-- whatever the console is asked, the id counts
abbrev pub console_served : ConsoleValue → Ask → ConsoleValue
console_served c ask = record { bytes = put_on c.bytes ask; highest = noted c.highest ask }

-- the channel after an ask, and the posts in the order in which they are sent
unfoldable pub served : ChannelValue → Ask → ChannelValue × List Post
served (AsBus b) ask = let s = bus_served b ask in (AsBus s.0, s.1)
served (AsConsole c) ask = (AsConsole (console_served c ask), [])

-- asks are served one after another
abbrev pub served_all : ChannelValue → List Ask → ChannelValue × List Post
served_all c [] = (c, [])
served_all c (ask ∷ asks) =
    let now = served c ask in
    let rest = served_all now.0 asks in
    (rest.0, now.1 ++ rest.1)
