-- Every channel is lawful.
use Rattle.std.proofs.Common.{◌≡◌, ◌∙◌, ℕ, ◌/◌, ◌<◌, ◌≤◌, List, [], Option, None, Some, unwrap_or, refl, sym, subst, arith, nat_lt}
use Rattle.std.specs.List.{All}
use Rattle.std.proofs.lemmas.List.{length-set}
use Rattle.std.proofs.lemmas.List.Elements.{All-nil, All-map, All-set}
use Rattle.std.proofs.lemmas.Option.{slice_get_within, get_or_from_slice_get}
use Rattle.slack_base.specs.declared.messages.Ask.{Ask}
use Rattle.slack_base.specs.declared.messages.Post.{Post}
use Rattle.slack_base.specs.Messages.{id_of, line_of}
use Rattle.status_map.specs.declared.views.EntryView.{EntryView}
use Rattle.status_map.specs.declared.views.Delays.{Delays}
use Rattle.status_map.specs.Entries.{NamesBelow}
use Rattle.status_map.specs.Table.{row, owns, post_of, serve}
use Rattle.status_map.specs.Laws.{AreAtLeast}
use Rattle.status_map.proofs.Lawful.{all_lawful}
use Rattle.slack_base.specs.declared.stamps.Id.{Id}
use Rattle.slot_calendar.specs.declared.slots.Slot.{Slot}
use Rattle.slot_calendar.specs.Slots.{grant_by}
use Rattle.slot_calendar.specs.Asks.{clash_of}
use Rattle.bus_model.specs.Settings.{SettingValue}
use Rattle.bus_model.specs.Channels.{BusValue, AsBus, AsConsole, IsSoundBus, entry_of}
use Rattle.bus_model.specs.Serving.{for_bus, grant_of, granted, on_entry, on_line, bus_served, served}
use Rattle.bus_model.specs.Laws.{IsSlowMemory, IsLawful, AllLawful, AllMayServe, lookahead_of}
use Rattle.bus_model.specs.Asks.{IsAskOf}

abbrev IsLawfulBus : BusValue → Ask → BusValue × List Post → Type 0
IsLawfulBus b ask out = IsLawful b.setting ask (AsBus b) (AsBus out.0) out.1

-- nothing was asked of the bus
unchanged : (b : BusValue) (ask : Ask) → IsSoundBus b → IsLawfulBus b ask (b, [])
unchanged b ask s = record {
  sound = s;
  same = refl;
  free = refl;
  posts = All-nil _;
  once = λ i j d low high. absurd (omega arith);
}

line-kept : (o : Option ℕ) (line : ℕ) → o ≡ Some line → Some (unwrap_or o 0) ≡ o
line-kept o line h = rw h refl

-- the posts carry the line
carried : (d : Delays) (grant : ℕ) (ask : Ask) (line : ℕ) (e : EntryView) → line_of ask ≡ Some line → All (λ p. Some p.line ≡ line_of ask) (serve d grant ask e).posts
unfolding serve
carried d grant ask line e h =
    All-map (λ (p : Post). Some p.line ≡ line_of ask) (post_of (id_of ask) (unwrap_or (line_of ask) 0) grant) (row d e.words ask e.kind (owns (id_of ask).core e.kind) (nat_lt grant e.settled)).sendings
    (λ k x lt. line-kept (line_of ask) line h)

-- a grant comes no sooner than the stamp
by_clash : (o : Option Id) (occupancy free stamp : ℕ) (x : Id) (slots : List Slot) → stamp ≤ grant_by o occupancy free stamp x slots
by_clash None occupancy free stamp x slots = omega arith
by_clash (Some high) occupancy free stamp x slots = omega arith

pub grant_late : (b : BusValue) (ask : Ask) → (id_of ask).cycle ≤ grant_of b ask
grant_late b ask = by_clash (clash_of b.setting.occupancy b.free (for_bus ask) b.slots) b.setting.occupancy b.free (id_of ask).cycle (id_of ask) b.slots

-- the entry of a line names cores of the machine
entry-named : (b : BusValue) (line : ℕ) (e : EntryView) → IsSoundBus b → entry_of b line ≡ Some e → NamesBelow b.setting.cores e.kind
entry-named b line e s at_line =
    let place = line / b.setting.buses in
    subst (λ (v : EntryView). NamesBelow b.setting.cores v.kind) (get_or_from_slice_get b.entries place e e at_line)
    (s.named place e (slice_get_within b.entries place e at_line))

pub granted-lawful : (b : BusValue) (ask : Ask) (line : ℕ) (e : EntryView) → IsSlowMemory b.setting.delays → IsSoundBus b → (id_of ask).core < b.setting.cores
    → line_of ask ≡ Some line → entry_of b line ≡ Some e → IsLawful b.setting ask (AsBus b) (AsBus (granted b ask line e).0) (granted b ask line e).1
unfolding granted
granted-lawful b ask line e slow s low of_line at_line =
    let grant = grant_of b ask in
    let least = lookahead_of b.setting.delays in
    let slowest : AreAtLeast least b.setting.delays = (omega arith, omega arith, omega arith) in
    let is = all_lawful b.setting.cores least grant b.setting.delays ask e slowest low (entry-named b line e s at_line) in
    record {
      sound = record {
        number = s.number;
        count = length-set b.entries (line / b.setting.buses) _ ∙ s.count;
        free = s.free;
        asks = omega arith;
        retries = omega arith;
        named = All-set (λ (v : EntryView). NamesBelow b.setting.cores v.kind) b.entries (line / b.setting.buses) _ is.named s.named;
      };
      same = refl;
      free = refl;
      posts = λ k d lt. record {
        to = is.received k d lt;
        id = is.carried k d lt;
        line = carried b.setting.delays grant ask line e of_line k d lt;
        due = let late = is.due k d lt in omega (arith, grant_late b ask);
      };
      once = is.once;
    }

on-entry : (b : BusValue) (ask : Ask) (line : ℕ) → IsSlowMemory b.setting.delays → IsSoundBus b → (id_of ask).core < b.setting.cores
    → line_of ask ≡ Some line → (o : Option EntryView) → entry_of b line ≡ o → IsLawfulBus b ask (on_entry b ask line o)
on-entry b ask line slow s low of_line None at_line = unchanged b ask s
on-entry b ask line slow s low of_line (Some e) at_line = granted-lawful b ask line e slow s low of_line at_line

on-line : (b : BusValue) (ask : Ask) → IsSlowMemory b.setting.delays → IsSoundBus b → (id_of ask).core < b.setting.cores
    → (o : Option ℕ) → line_of ask ≡ o → IsLawfulBus b ask (on_line b ask o)
on-line b ask slow s low None of_line = unchanged b ask s
on-line b ask slow s low (Some line) of_line = on-entry b ask line slow s low of_line (entry_of b line) refl

bus-lawful : (b : BusValue) (ask : Ask) → IsSlowMemory b.setting.delays → IsSoundBus b → (id_of ask).core < b.setting.cores → IsLawfulBus b ask (bus_served b ask)
unfolding bus_served
bus-lawful b ask slow s low = on-line b ask slow s low (line_of ask) refl

pub channels-lawful : AllLawful
unfolding served
channels-lawful s (AsBus b) ask slow sound same of =
    let out = bus_served b ask in
    let core : (id_of ask).core < b.setting.cores = subst (λ (t : SettingValue). (id_of ask).core < t.cores) (sym same) of.proper.core in
    let here = bus-lawful b ask (subst (λ (t : SettingValue). IsSlowMemory t.delays) (sym same) slow) sound core in
    subst (λ (t : SettingValue). IsLawful t ask (AsBus b) (AsBus out.0) out.1) same here
channels-lawful s (AsConsole c) ask slow sound same of = record {
  sound = tt;
  same = same;
  free = refl;
  posts = All-nil _;
  once = λ i j d low high. absurd (omega arith);
}

pub may-serve : AllMayServe
may-serve s (AsBus b) ask same of = subst (λ (t : SettingValue). IsAskOf t ask) (sym same) of
may-serve s (AsConsole c) ask same of = tt
