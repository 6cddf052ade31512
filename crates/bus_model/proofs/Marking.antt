-- What a bus was at its mark, as its lines change.
use Rattle.std.proofs.Common.{◌≡◌, ◌∙◌, ℕ, ◌+◌, ◌<◌, ◌≤◌, true, List, [], ◌∷◌, Option, Some, None, IfSome, IfNone, length, is_some, zero, suc, refl, sym, ap, subst, arith}
use Rattle.std.specs.Prelude.{slice_get, slice_set}
use Rattle.std.specs.Option.{option_map}
use Rattle.slack_base.specs.declared.bounds.TheConstants.{TOP}
use Rattle.slack_base.specs.Growing.{raised}
use Rattle.status_map.specs.declared.views.EntryView.{EntryView}
use Rattle.bus_model.specs.declared.buses.BusMark.{BusMark}
use Rattle.bus_model.specs.Channels.{BusValue, IsSoundBus}
use Rattle.bus_model.specs.Journals.{LinesValue, IsReady, restored}
use Rattle.bus_model.specs.Settings.{SettingValue}
use Rattle.bus_model.specs.Views.{bus_with}
use Rattle.bus_model.proofs.Restoring.{restored-change}

-- there is an entry at a place inside
pub at_place : (entries : List EntryView) (place : ℕ) → place < length entries → (entry : EntryView) × (slice_get entries place ≡ Some entry)
at_place [] place inside = absurd (omega arith)
at_place (entry ∷ entries) zero inside = (entry, refl)
at_place (entry ∷ entries) (suc place) inside = at_place entries place (omega arith)

-- the lines with one entry changed
abbrev pub changed : LinesValue → ℕ → EntryView → LinesValue
changed lines place entry = record { entries = slice_set lines.entries place entry; journal = lines.journal }

abbrev pub saved_by : SettingValue → Option BusMark → LinesValue → Option BusValue
saved_by setting mark lines = option_map (λ m. bus_with setting m.counters (restored lines.entries lines.journal) m.calendar) mark

module _ (place : ℕ) (before after : LinesValue) (entry : EntryView) where
  pub restored-changed : IsReady place true before after → restored (slice_set after.entries place entry) after.journal ≡ restored before.entries before.journal
  restored-changed ready = restored-change after.entries after.journal place entry (ready.noted refl) ∙ ready.kept

  pub saved-changed : (setting : SettingValue) (mark : Option BusMark) → IsReady place (is_some mark) before after
      → saved_by setting mark (changed after place entry) ≡ saved_by setting mark before
  saved-changed setting None ready = refl
  saved-changed setting (Some m) ready = ap (λ (es : List EntryView). Some (bus_with setting m.counters es m.calendar)) (restored-changed ready)

  pub sound-changed : (setting : SettingValue) (mark : Option BusMark) → IsReady place (is_some mark) before after
      → IfSome mark (λ m. IsSoundBus (bus_with setting m.counters (restored before.entries before.journal) m.calendar))
      → IfSome mark (λ m. IsSoundBus (bus_with setting m.counters (restored (slice_set after.entries place entry) after.journal) m.calendar))
  sound-changed setting None ready sound = sound
  sound-changed setting (Some m) ready sound = subst (λ (es : List EntryView). IsSoundBus (bus_with setting m.counters es m.calendar)) (sym (restored-changed ready)) sound

pub few-changed : (place asks : ℕ) (before after : LinesValue) (mark : Option BusMark) → IsReady place (is_some mark) before after
    → IfSome mark (λ m. asks < TOP → m.counters.asks + length before.journal ≤ asks)
    → IfSome mark (λ m. raised asks < TOP → m.counters.asks + length after.journal ≤ raised asks)
few-changed place asks before after None ready few = few
few-changed place asks before after (Some m) ready few = λ low. let h = few (omega arith) in omega (arith, h, ready.few)

pub unmarked-changed : (place : ℕ) (before after : LinesValue) (mark : Option BusMark) → IsReady place (is_some mark) before after
    → IfNone mark (before.journal ≡ []) → IfNone mark (after.journal ≡ [])
unmarked-changed place before after None ready none = ready.unmarked refl ∙ none
unmarked-changed place before after (Some m) ready none = none
