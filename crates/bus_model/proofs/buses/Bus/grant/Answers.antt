use Rattle.std.proofs.Common.{◌≡◌, ◌∙◌, ◌+◌, ◌/◌, ◌<◌, ◌≤◌, ℕ, List, [], Some, length, is_some, refl, sym, ap, subst, arith}
use Rattle.std.specs.Prelude.{count_by, slice_get, slice_set, IfSome, IfNone}
use Rattle.slack_base.specs.declared.bounds.TheConstants.{TOP}
use Rattle.slack_base.specs.declared.stamps.Id.{Id}
use Rattle.slack_base.specs.declared.messages.Post.{Post}
use Rattle.slack_base.specs.Growing.{capped, raised}
use Rattle.slack_base.specs.Marks.{Marked}
use Rattle.slack_base.specs.Messages.{id_of, line_of}
use Rattle.status_map.specs.declared.views.EntryView.{EntryView}
use Rattle.status_map.specs.Table.{Served, serve}
use Rattle.slot_calendar.specs.Slots.{grant_in}
use Rattle.slot_calendar.specs.Asks.{with_ask}
use Rattle.bus_model.specs.declared.lines.Note.{Note}
use Rattle.bus_model.specs.Asks.{IsLine}
use Rattle.bus_model.specs.Channels.{BusValue, IsSoundBus, entry_of}
use Rattle.bus_model.specs.Journals.{LinesValue, IsReady, restored}
use Rattle.bus_model.specs.Laws.{IsSlowMemory}
use Rattle.bus_model.specs.Serving.{is_retry, granted, on_line}
use Rattle.bus_model.specs.Settings.{setting_value}
use Rattle.bus_model.specs.Views.{bus_now, bus_with}
use Rattle.bus_model.proofs.Granting.{granted-on_line, granted-parts}
use Rattle.bus_model.proofs.Lawful.{granted-lawful}
use Rattle.bus_model.proofs.Marking.{at_place, changed, saved_by, saved-changed, sound-changed, few-changed, unmarked-changed}
use Rattle.bus_model.proofs.Places.{place-inside}
use Rattle.bus_model.proofs.buses.Bus.grant.Goals as goal

abbrev place_of : goal.After-self-2-1 → ℕ
place_of c = c.args.line / c.self.inside.setting.buses

inside : (c : goal.After-self-2-1) → place_of c < length c.self.inside.lines.entries
inside c =
    let b = bus_now c.self.inside in
    let line = c.args.line in
    let setting = c.self.inside.setting in
    let proper : IsLine b.setting.lines (line_of c.args.ask.now) = subst (λ (v : Marked BusValue). IsLine v.value.setting.lines (line_of c.args.ask.now)) (sym c.self.view_is) c.requires.ask.proper.line in
    let low : line < b.setting.lines = subst (λ o. IsLine b.setting.lines o) c.requires.line proper in
    omega (arith, place-inside b.setting.lines b.setting.buses line setting.buses_in_bounds setting.lines_in_bounds low, c.self.invariant.now.count)

-- the entry that the ask is for
found : (c : goal.After-self-2-1) → (entry : EntryView) × (entry_of (bus_now c.self.inside) c.args.line ≡ Some entry)
found c = at_place c.self.inside.lines.entries (place_of c) (inside c)

abbrev outcome : goal.After-self-2-1 → Served
outcome c = serve c.self.inside.setting.delays c.in_ok-grant.grant c.args.ask.now (found c).0

-- the line was ready to change
ready : (c : goal.After-self-2-1) → IsReady (place_of c) (is_some c.self.inside.mark) c.self.inside.lines c.prepare.new.self
ready c = subst (λ b. IsReady (place_of c) b c.self.inside.lines c.prepare.new.self) c.is_some.ensures c.in_ok-prepare.ensures.ready

found_ready : (c : goal.After-self-2-1) → slice_get c.prepare.new.self.entries (place_of c) ≡ Some (found c).0
found_ready c = ap (λ (es : List EntryView). slice_get es (place_of c)) (ready c).entries ∙ (found c).1

entries : (c : goal.After-self-2-1) → c.serve.new.self.entries ≡ slice_set c.prepare.new.self.entries (place_of c) (outcome c).entry
entries c = rw (found_ready c) at c.serve.ensures.entries

posts : (c : goal.After-self-2-1) → c.serve.new.out ≡ (outcome c).posts
posts c = rw (found_ready c) at c.serve.ensures.posts

lines : (c : goal.After-self-2-1) → c.serve.new.self ≡ changed c.prepare.new.self (place_of c) (outcome c).entry
lines c = λ i. record { entries = entries c i; journal = c.serve.ensures.journal i }

served : (c : goal.After-self-2-1) → on_line c.args.self.now.value c.args.ask.now (Some c.args.line) ≡ granted (bus_now c.self.inside) c.args.ask.now c.args.line (found c).0
served c =
    ap (λ (v : Marked BusValue). on_line v.value c.args.ask.now (Some c.args.line)) (sym c.self.view_is)
    ∙ granted-on_line (bus_now c.self.inside) c.args.ask.now c.args.line (found c).0 (found c).1

-- the fields are those of the bus after the ask
abbrev after : goal.After-self-2-1 → List EntryView → BusValue × List Post
after c es = (
  record (bus_now c.self.inside) {
    asks = c.raised-self-inside.result;
    retries = c.capped-self-inside.result;
    entries = es;
    slots = c.place.new.self;
  },
  c.serve.new.out,
)

parts : (c : goal.After-self-2-1) → after c c.serve.new.self.entries ≡ granted (bus_now c.self.inside) c.args.ask.now c.args.line (found c).0
parts c =
    let b = bus_now c.self.inside in
    let counted : c.retries_in.result ≡ count_by is_retry c.serve.new.out = c.retries_in.ensures ∙ ap (λ (ps : List Post). count_by is_retry ps) c.posts.ensures.posts in
    ap (λ (es : List EntryView). after c es) (entries c ∙ ap (λ (es : List EntryView). slice_set es (place_of c) (outcome c).entry) (ready c).entries)
    ∙ granted-parts b c.args.ask.now c.args.line (found c).0 c.in_ok-grant.grant
    c.raised-self-inside.result c.capped-self-inside.result c.place.new.self (outcome c).entry c.serve.new.out
    c.raised-self-inside.ensures
    (c.capped-self-inside.ensures ∙ ap (λ n. capped (b.retries + n)) counted)
    refl (posts c)
    (c.in_ok-grant.ensures.slots ∙ ap (λ (x : Id). with_ask b.setting.occupancy b.free (record { id = x; stamp = x.cycle }) b.slots) c.id-id.ensures)
    (c.in_ok-grant.ensures.grant ∙ ap (λ (x : Id). grant_in b.setting.occupancy b.free x.cycle x b.slots) c.id-id.ensures)

pub returns-clause-bus : goal.returns-clause-bus
returns-clause-bus c = ap (λ (p : BusValue × List Post). p.0) (parts c ∙ sym (served c))

pub returns-clause-posts : goal.returns-clause-posts
returns-clause-posts c = ap (λ (p : BusValue × List Post). p.1) (parts c ∙ sym (served c))

pub returns-clause-saved : goal.returns-clause-saved
returns-clause-saved c =
    let inside = c.self.inside in
    ap (λ (ls : LinesValue). saved_by (setting_value inside.setting) inside.mark ls) (lines c)
    ∙ saved-changed (place_of c) inside.lines c.prepare.new.self (outcome c).entry (setting_value inside.setting) inside.mark (ready c)
    ∙ ap (λ (v : Marked BusValue). v.saved) c.self.view_is

pub invariant_of-self-2 : goal.invariant_of-self-2
invariant_of-self-2 c =
    let inside = c.self.inside in
    let b = bus_now inside in
    let slow : IsSlowMemory b.setting.delays = inside.setting.memory_in_bounds in
    let core : (id_of c.args.ask.now).core < b.setting.cores = subst (λ (v : Marked BusValue). (id_of c.args.ask.now).core < v.value.setting.cores) (sym c.self.view_is) c.requires.ask.proper.core in
    let lawful = granted-lawful b c.args.ask.now c.args.line (found c).0 slow c.self.invariant.now core c.requires.line (found c).1 in
    record {
      now = subst (λ (p : BusValue × List Post). IsSoundBus p.0) (sym (parts c)) lawful.sound;
      saved = subst (λ (ls : LinesValue). IfSome inside.mark (λ m. IsSoundBus (bus_with (setting_value inside.setting) m.counters (restored ls.entries ls.journal) m.calendar))) (sym (lines c))
          (sound-changed (place_of c) inside.lines c.prepare.new.self (outcome c).entry (setting_value inside.setting) inside.mark (ready c) c.self.invariant.saved);
      few = subst (λ n. IfSome inside.mark (λ m. n < TOP → m.counters.asks + length c.serve.new.self.journal ≤ n)) (sym c.raised-self-inside.ensures)
          (subst (λ (js : List Note). IfSome inside.mark (λ m. raised inside.counters.asks < TOP → m.counters.asks + length js ≤ raised inside.counters.asks)) (sym c.serve.ensures.journal)
          (few-changed (place_of c) inside.counters.asks inside.lines c.prepare.new.self inside.mark (ready c) c.self.invariant.few));
      unmarked = subst (λ (js : List Note). IfNone inside.mark (js ≡ [])) (sym c.serve.ensures.journal)
          (unmarked-changed (place_of c) inside.lines c.prepare.new.self inside.mark (ready c) c.self.invariant.unmarked);
    }
