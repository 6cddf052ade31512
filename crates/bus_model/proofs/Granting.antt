-- An ask for a line of a bus.
use Rattle.std.proofs.Common.{◌≡◌, ℕ, ◌+◌, ◌/◌, List, Some, refl}
use Rattle.std.specs.Prelude.{count_by, slice_set}
use Rattle.slack_base.specs.declared.messages.Ask.{Ask}
use Rattle.slack_base.specs.declared.messages.Post.{Post}
use Rattle.slack_base.specs.Growing.{capped, raised}
use Rattle.status_map.specs.declared.views.EntryView.{EntryView}
use Rattle.status_map.specs.Table.{serve}
use Rattle.slot_calendar.specs.declared.slots.Slot.{Slot}
use Rattle.slot_calendar.specs.Asks.{with_ask}
use Rattle.bus_model.specs.Channels.{BusValue, entry_of}
use Rattle.bus_model.specs.Serving.{for_bus, is_retry, grant_of, granted, on_line}

pub granted-on_line : (b : BusValue) (ask : Ask) (line : ℕ) (e : EntryView) → entry_of b line ≡ Some e → on_line b ask (Some line) ≡ granted b ask line e
granted-on_line b ask line e at_line = rw at_line refl

-- the parts of a bus after an ask
pub granted-parts : (b : BusValue) (ask : Ask) (line : ℕ) (e : EntryView) (grant asks retries : ℕ) (slots : List Slot) (entry : EntryView) (posts : List Post)
    → asks ≡ raised b.asks
    → retries ≡ capped (b.retries + count_by is_retry posts)
    → entry ≡ (serve b.setting.delays grant ask e).entry
    → posts ≡ (serve b.setting.delays grant ask e).posts
    → slots ≡ with_ask b.setting.occupancy b.free (for_bus ask) b.slots
    → grant ≡ grant_of b ask
    → (record b { asks = asks; retries = retries; entries = slice_set b.entries (line / b.setting.buses) entry; slots = slots }, posts) ≡ granted b ask line e
unfolding granted
granted-parts b ask line e grant asks retries slots entry posts h_asks h_retries h_entry h_posts h_slots h_grant =
    rw (h_asks, h_retries, h_entry, h_posts, h_slots, h_grant) refl
