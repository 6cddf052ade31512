-- What closing keeps, and what an ask above all others makes of it.
use Rattle.std.proofs.Common.{◌≡◌, ◌∙◌, ℕ, true, false, cond, List, [], ◌∷◌, Option, Some, None, IfSome, IsTrue, refl, sym, ap, subst, arith}
use Rattle.std.specs.List.{AllByRecursion as Each}
use Rattle.slack_base.specs.declared.messages.Ask.{Ask}
use Rattle.slack_base.specs.declared.stamps.Id.{Id}
use Rattle.slack_base.specs.HighestIds.{later_of, clash_with}
use Rattle.slack_base.specs.Messages.{id_of, line_of}
use Rattle.slack_base.specs.Stamps.{is_above}
use Rattle.status_map.specs.declared.views.EntryView.{EntryView}
use Rattle.slot_calendar.specs.declared.slots.Slot.{Slot}
use Rattle.slot_calendar.specs.Asks.{IsNext}
use Rattle.slot_calendar.proofs.Ids.{above_back}
use Rattle.slot_calendar.proofs.Ends.{last_end_top}
use Rattle.slot_calendar.proofs.Swaps.{closing, next_clash}
use Rattle.slot_calendar.proofs.Turns.{all_ends}
use Rattle.bus_model.specs.Channels.{BusValue, ChannelValue, AsBus, AsConsole, entry_of}
use Rattle.bus_model.specs.Closing.{bus_closed, closed}
use Rattle.bus_model.specs.ClosingLaws.{AllBelow, IsLast, IsReopened, AllClose, AllReopen, AllLast}
use Rattle.bus_model.specs.Serving.{for_bus, granted, on_entry, on_line, bus_served, served, served_all}
use Rattle.bus_model.proofs.Keeping.{bus_keeps}
use Rattle.bus_model.proofs.Swaps.{granted_at}

pub closes : AllClose
closes s (AsBus b) sound same = record {
  sound = record { number = sound.number; count = sound.count; free = last_end_top b.setting.occupancy b.free b.slots sound.free; asks = sound.asks; retries = sound.retries; named = sound.named };
  same = same;
  free = (all_ends b.setting.occupancy b.free b.slots).behind_free;
  once = refl;
}
closes s (AsConsole c) sound same = record { sound = tt; same = same; free = omega arith; once = refl }

-- the same posts, and once the bus is closed the same bus
record IsBusReopened (b : BusValue) (x : Ask) (line : Option ℕ) : Type 0 where
  posts : (on_line (bus_closed b) x line).1 ≡ (on_line b x line).1
  value : bus_closed (on_line (bus_closed b) x line).0 ≡ bus_closed (on_line b x line).0

module _ (b : BusValue) (x : Ask) (next : IsNext (for_bus x) b.slots) where
  entry_reopens : (l : ℕ) (e : Option EntryView) → entry_of b l ≡ e → IsBusReopened b x (Some l)
  unfolding granted
  entry_reopens l None is = record {
    posts = ap (λ e. (on_entry (bus_closed b) x l e).1) is ∙ sym (ap (λ e. (on_entry b x l e).1) is);
    value = ap (λ e. bus_closed (on_entry (bus_closed b) x l e).0) is ∙ sym (ap (λ e. bus_closed (on_entry b x l e).0) is);
  }
  entry_reopens l (Some e) is =
      let same = closing b.setting.occupancy b.free (for_bus x) b.slots next in
      let after : ℕ → ℕ → BusValue = λ grant end. record (granted_at b x l grant [] e).0 { free = end } in
      record {
        posts = ap (λ e. (on_entry (bus_closed b) x l e).1) is ∙ ap (λ (s : Slot). (granted_at b x l s.grant [] e).1) same.slot ∙ sym (ap (λ e. (on_entry b x l e).1) is);
        value = ap (λ e. bus_closed (on_entry (bus_closed b) x l e).0) is ∙ (λ i. after (same.slot i).grant (same.end i)) ∙ sym (ap (λ e. bus_closed (on_entry b x l e).0) is);
      }

  line_reopens : (line : Option ℕ) → IsBusReopened b x line
  line_reopens None = record { posts = refl; value = refl }
  line_reopens (Some l) = entry_reopens l (entry_of b l) refl

  bus_reopens : IsReopened (AsBus b) x
  unfolding bus_served served
  bus_reopens =
      let line = line_reopens (line_of x) in
      record { free = next_clash b.setting.occupancy b.free (for_bus x) b.slots next; posts = line.posts; value = ap AsBus line.value }

none_above : (highest : Option Id) (x : Id) → IfSome highest (λ high. IsTrue (is_above x high)) → clash_with highest x ≡ None
none_above None x last = refl
none_above (Some high) x last = ap (λ b. cond b (Some high) None) (above_back x high last)

pub reopens : AllReopen
unfolding served
reopens (AsBus b) x last = bus_reopens b x last
reopens (AsConsole c) x last = record { free = none_above c.highest (id_of x) last; posts = refl; value = refl }

later_low : (highest : Option Id) (x y : Id) → is_above x y ≡ true → IfSome highest (λ high. IsTrue (is_above x high)) → is_above x (later_of highest y) ≡ true
later_low None x y above last = above
later_low (Some high) x y above last = elim (is_above high y) as (λ b. is_above x (cond b high y) ≡ true) [ true ↦ last | false ↦ above ]

pub last_more : (c : ChannelValue) (x y : Ask) → is_above (id_of x) (id_of y) ≡ true → IsLast x c → IsLast x (served c y).0
unfolding served
last_more (AsBus b) x y above last = (bus_keeps (λ s. IsTrue (is_above (id_of x) s.id)) b y (λ g. above) last).slots
last_more (AsConsole c) x y above last = later_low c.highest (id_of x) (id_of y) above last

last_all : (c : ChannelValue) (asks : List Ask) (x : Ask) → AllBelow x asks → IsLast x c → IsLast x (served_all c asks).0
last_all c [] x below last = last
last_all c (y ∷ asks) x below last = last_all (served c y).0 asks x below.1 (last_more c x y below.0 last)

-- what a channel keeps since it was closed
abbrev slots_in : ChannelValue → List Slot
slots_in (AsBus b) = b.slots
slots_in (AsConsole c) = []

abbrev highest_in : ChannelValue → Option Id
highest_in (AsBus b) = None
highest_in (AsConsole c) = c.highest

pub closed_last : (c : ChannelValue) (x : Ask) → closed c ≡ c → IsLast x c
closed_last (AsBus b) x e = subst (λ (slots : List Slot). Each (λ s. IsTrue (is_above (id_of x) s.id)) slots) (ap slots_in e) tt
closed_last (AsConsole c) x e = subst (λ (highest : Option Id). IfSome highest (λ high. IsTrue (is_above (id_of x) high))) (ap highest_in e) tt

pub stays_last : AllLast
stays_last c asks x is_closed below = last_all c asks x below (closed_last c x is_closed)
