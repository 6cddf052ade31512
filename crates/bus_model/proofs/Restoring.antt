-- What is left of a journal as lines are noted, change and are put back.
use Rattle.std.proofs.Common.{◌≡◌, ◌∙◌, ℕ, ◌==◌, ◌||◌, Bool, true, false, List, [], ◌∷◌, ◌++◌, length, get_or, inl, inr, refl, sym, ap, arith}
use Rattle.std.specs.Prelude.{slice_set}
use Rattle.std.proofs.lemmas.Bool.{cases_eq}
use Rattle.std.proofs.lemmas.Bool.Decides.{nat_tests}
use Rattle.std.proofs.lemmas.List.{length-set, set-set, set_comm, set-get_or}
use Rattle.status_map.specs.declared.views.EntryView.{EntryView}
use Rattle.bus_model.specs.declared.lines.Note.{Note}
use Rattle.bus_model.specs.Journals.{restored, is_noted}

pub length-restored : (entries : List EntryView) (journal : List Note) → length (restored entries journal) ≡ length entries
length-restored entries [] = refl
length-restored entries (note ∷ journal) = length-set (restored entries journal) note.place note.entry ∙ length-restored entries journal

-- the latest note is put back first
pub restored-push : (entries : List EntryView) (journal : List Note) (note : Note)
    → restored entries (journal ++ note ∷ []) ≡ restored (slice_set entries note.place note.entry) journal
restored-push entries [] note = refl
restored-push entries (older ∷ journal) note = ap (λ (es : List EntryView). slice_set es older.place older.entry) (restored-push entries journal note)

-- a note of a line as it is changes nothing
pub restored-noting : (entries : List EntryView) (journal : List Note) (place : ℕ) (entry : EntryView)
    → entry ≡ get_or entries place entry → restored entries (journal ++ record { place = place; entry = entry } ∷ []) ≡ restored entries journal
restored-noting entries journal place entry is =
    restored-push entries journal (record { place = place; entry = entry })
    ∙ ap (λ (es : List EntryView). restored es journal) (ap (λ (e : EntryView). slice_set entries place e) is ∙ set-get_or entries place entry)

-- whatever a line is, once it is put back
restored-under : (entries : List EntryView) (journal : List Note) (place : ℕ) (x y : EntryView)
    → slice_set (restored (slice_set entries place x) journal) place y ≡ slice_set (restored entries journal) place y
restored-under entries [] place x y = set-set entries place x y
restored-under entries (note ∷ journal) place x y =
    let changed = restored (slice_set entries place x) journal in
    let as_it_was = restored entries journal in
    elim (cases_eq note.place place) [
      | inl same ↦ rw same (set-set changed place note.entry y ∙ restored-under entries journal place x y ∙ sym (set-set as_it_was place note.entry y))
      | inr other ↦
          set_comm changed note.place place note.entry y other
          ∙ ap (λ (es : List EntryView). slice_set es note.place note.entry) (restored-under entries journal place x y)
          ∙ sym (set_comm as_it_was note.place place note.entry y other)
    ]

noted_later : (note : Note) (place : ℕ) (later : Bool) → (note.place ≡ place → ⊥) → ((note.place == place) || later) ≡ true → later ≡ true
noted_later note place later other h = grind (arith, nat_tests)

-- a line that stands in the journal may change
pub restored-change : (entries : List EntryView) (journal : List Note) (place : ℕ) (x : EntryView)
    → is_noted place journal ≡ true → restored (slice_set entries place x) journal ≡ restored entries journal
restored-change entries [] place x noted = absurd (cc)
restored-change entries (note ∷ journal) place x noted = elim (cases_eq note.place place) [
  | inl same ↦ rw same (restored-under entries journal place x note.entry)
  | inr other ↦
      ap (λ (es : List EntryView). slice_set es note.place note.entry)
      (restored-change entries journal place x (noted_later note place (is_noted place journal) other noted))
]

-- a line stands in a longer journal where it stands in the shorter one, or last
pub is_noted-push : (place : ℕ) (journal : List Note) (note : Note) → is_noted place (journal ++ note ∷ []) ≡ (is_noted place journal || (note.place == place))
is_noted-push place [] note = grind (arith, nat_tests)
is_noted-push place (older ∷ journal) note = rw (is_noted-push place journal note) (or_assoc (older.place == place) (is_noted place journal) (note.place == place))
  where
    or_assoc : (a b c : Bool) → (a || (b || c)) ≡ ((a || b) || c)
    or_assoc true b c = refl
    or_assoc false b c = refl
