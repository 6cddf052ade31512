-- What an ask leaves of a bus and of its calendar.
use Rattle.std.proofs.Common.{◌≡◌, ℕ, List, [], ◌∷◌, Option, None, Some, refl}
use Rattle.std.specs.List.{AllByRecursion as Each}
use Rattle.slack_base.specs.declared.messages.Ask.{Ask}
use Rattle.slack_base.specs.Messages.{id_of, line_of}
use Rattle.status_map.specs.declared.views.EntryView.{EntryView}
use Rattle.slot_calendar.specs.declared.slots.Slot.{Slot}
use Rattle.slot_calendar.specs.Asks.{slot_of}
use Rattle.slot_calendar.proofs.Orders.{each_with}
use Rattle.bus_model.specs.Channels.{BusValue, entry_of}
use Rattle.bus_model.specs.Serving.{for_bus, granted, on_entry, on_line, bus_served}

-- the setting and the cycle from which the bus was free stay, and what is so of every slot and of that of the ask is so of
-- every slot then
pub record IsKept (P : Slot → Type 0) (b d : BusValue) : Type 0 where
  pub setting : d.setting ≡ b.setting
  pub free : d.free ≡ b.free
  pub slots : Each P d.slots

module _ (P : Slot → Type 0) (b : BusValue) (ask : Ask) (its : (grant : ℕ) → P (record { id = id_of ask; grant = grant })) (all : Each P b.slots) where
  entry_keeps : (line : ℕ) (entry : Option EntryView) → IsKept P b (on_entry b ask line entry).0
  unfolding granted
  entry_keeps line None = record { setting = refl; free = refl; slots = all }
  entry_keeps line (Some e) =
      let slot = slot_of b.setting.occupancy b.free (for_bus ask) b.slots in
      record { setting = refl; free = refl; slots = each_with P slot b.slots (its slot.grant) all }

  line_keeps : (line : Option ℕ) → IsKept P b (on_line b ask line).0
  line_keeps None = record { setting = refl; free = refl; slots = all }
  line_keeps (Some line) = entry_keeps line (entry_of b line)

  pub bus_keeps : IsKept P b (bus_served b ask).0
  unfolding bus_served
  bus_keeps = line_keeps (line_of ask)

any_slots : (slots : List Slot) → Each (λ s. Unit {0}) slots
any_slots [] = tt
any_slots (s ∷ slots) = (tt, any_slots slots)

pub setting_kept : (b : BusValue) (ask : Ask) → (bus_served b ask).0.setting ≡ b.setting
setting_kept b ask = (bus_keeps (λ s. Unit {0}) b ask (λ g. tt) (any_slots b.slots)).setting
