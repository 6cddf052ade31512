-- What is left of a journal as sets are noted, change and are put back.
use Rattle.std.proofs.Common.{◌≡◌, ◌∙◌, ℕ, ◌==◌, ◌||◌, Bool, true, false, List, [], ◌∷◌, ◌++◌, length, get_or, inl, inr, refl, sym, ap, arith}
use Rattle.std.specs.Prelude.{slice_set}
use Rattle.std.proofs.lemmas.Bool.{cases_eq}
use Rattle.std.proofs.lemmas.Bool.Decides.{nat_tests}
use Rattle.std.proofs.lemmas.List.{set-set, set_comm, set-get_or}
use Rattle.mesi_cache.specs.declared.lines.CacheLine.{CacheLine}
use Rattle.timed_core.specs.declared.noted_sets.SetNote.{SetNote}
use Rattle.timed_core.specs.Journals.{restored, restored_touches, is_noted}

noted_later : (note : SetNote) (number : ℕ) (later : Bool) → (note.set ≡ number → ⊥) → ((note.set == number) || later) ≡ true → later ≡ true
noted_later note number later other h = grind (arith, nat_tests)

-- a part of each note is put back, the latest note first
module _ {X : Type 0} (part : SetNote → X) (back : List X → List SetNote → List X) (nothing : (xs : List X) → back xs [] ≡ xs)
    (one_more : (xs : List X) (note : SetNote) (journal : List SetNote) → back xs (note ∷ journal) ≡ slice_set (back xs journal) note.set (part note)) where
  -- the latest note is put back first
  push : (xs : List X) (journal : List SetNote) (note : SetNote) → back xs (journal ++ note ∷ []) ≡ back (slice_set xs note.set (part note)) journal
  push xs [] note = one_more xs note [] ∙ ap (λ (es : List X). slice_set es note.set (part note)) (nothing xs) ∙ sym (nothing (slice_set xs note.set (part note)))
  push xs (older ∷ journal) note =
      one_more xs older (journal ++ note ∷ [])
      ∙ ap (λ (es : List X). slice_set es older.set (part older)) (push xs journal note)
      ∙ sym (one_more (slice_set xs note.set (part note)) older journal)

  -- a note of a part as it is changes nothing
  noting : (xs : List X) (journal : List SetNote) (note : SetNote) → part note ≡ get_or xs note.set (part note) → back xs (journal ++ note ∷ []) ≡ back xs journal
  noting xs journal note is =
      push xs journal note
      ∙ ap (λ (es : List X). back es journal) (ap (λ (e : X). slice_set xs note.set e) is ∙ set-get_or xs note.set (part note))

  -- whatever a part is, once it is put back
  under : (xs : List X) (journal : List SetNote) (number : ℕ) (x y : X)
      → slice_set (back (slice_set xs number x) journal) number y ≡ slice_set (back xs journal) number y
  under xs [] number x y =
      ap (λ (es : List X). slice_set es number y) (nothing (slice_set xs number x)) ∙ set-set xs number x y ∙ sym (ap (λ (es : List X). slice_set es number y) (nothing xs))
  under xs (note ∷ journal) number x y =
      let changed = back (slice_set xs number x) journal in
      let as_it_was = back xs journal in
      let whole : slice_set (slice_set changed note.set (part note)) number y ≡ slice_set (slice_set as_it_was note.set (part note)) number y = elim (cases_eq note.set number) [
        | inl same ↦
            ap (λ n. slice_set (slice_set changed n (part note)) number y) same
            ∙ set-set changed number (part note) y ∙ under xs journal number x y ∙ sym (set-set as_it_was number (part note) y)
            ∙ sym (ap (λ n. slice_set (slice_set as_it_was n (part note)) number y) same)
        | inr other ↦
            set_comm changed note.set number (part note) y other
            ∙ ap (λ (es : List X). slice_set es note.set (part note)) (under xs journal number x y)
            ∙ sym (set_comm as_it_was note.set number (part note) y other)
      ] in
      ap (λ (es : List X). slice_set es number y) (one_more (slice_set xs number x) note journal)
      ∙ whole
      ∙ sym (ap (λ (es : List X). slice_set es number y) (one_more xs note journal))

  -- a set that stands in the journal may change
  change : (xs : List X) (journal : List SetNote) (number : ℕ) (x : X) → is_noted number journal ≡ true → back (slice_set xs number x) journal ≡ back xs journal
  change xs [] number x noted = absurd (cc)
  change xs (note ∷ journal) number x noted =
      let whole : slice_set (back (slice_set xs number x) journal) note.set (part note) ≡ slice_set (back xs journal) note.set (part note) = elim (cases_eq note.set number) [
        | inl same ↦
            ap (λ n. slice_set (back (slice_set xs number x) journal) n (part note)) same
            ∙ under xs journal number x (part note)
            ∙ sym (ap (λ n. slice_set (back xs journal) n (part note)) same)
        | inr other ↦
            ap (λ (es : List X). slice_set es note.set (part note))
            (change xs journal number x (noted_later note number (is_noted number journal) other noted))
      ] in
      one_more (slice_set xs number x) note journal ∙ whole ∙ sym (one_more xs note journal)

-- sets

pub restored-push : (sets : List (List CacheLine)) (journal : List SetNote) (note : SetNote)
    → restored sets (journal ++ note ∷ []) ≡ restored (slice_set sets note.set note.copy) journal
restored-push = push (λ (n : SetNote). n.copy) restored (λ xs. refl) (λ xs note journal. refl)

pub restored-noting : (sets : List (List CacheLine)) (journal : List SetNote) (note : SetNote)
    → note.copy ≡ get_or sets note.set note.copy → restored sets (journal ++ note ∷ []) ≡ restored sets journal
restored-noting = noting (λ (n : SetNote). n.copy) restored (λ xs. refl) (λ xs note journal. refl)

pub restored-change : (sets : List (List CacheLine)) (journal : List SetNote) (number : ℕ) (x : List CacheLine)
    → is_noted number journal ≡ true → restored (slice_set sets number x) journal ≡ restored sets journal
restored-change = change (λ (n : SetNote). n.copy) restored (λ xs. refl) (λ xs note journal. refl)

-- touches

pub touches-push : (touches : List ℕ) (journal : List SetNote) (note : SetNote)
    → restored_touches touches (journal ++ note ∷ []) ≡ restored_touches (slice_set touches note.set note.touch) journal
touches-push = push (λ (n : SetNote). n.touch) restored_touches (λ xs. refl) (λ xs note journal. refl)

pub touches-noting : (touches : List ℕ) (journal : List SetNote) (note : SetNote)
    → note.touch ≡ get_or touches note.set note.touch → restored_touches touches (journal ++ note ∷ []) ≡ restored_touches touches journal
touches-noting = noting (λ (n : SetNote). n.touch) restored_touches (λ xs. refl) (λ xs note journal. refl)

pub touches-change : (touches : List ℕ) (journal : List SetNote) (number x : ℕ)
    → is_noted number journal ≡ true → restored_touches (slice_set touches number x) journal ≡ restored_touches touches journal
touches-change = change (λ (n : SetNote). n.touch) restored_touches (λ xs. refl) (λ xs note journal. refl)

-- a set stands in a longer journal where it stands in the shorter one, or last
pub is_noted-push : (number : ℕ) (journal : List SetNote) (note : SetNote) → is_noted number (journal ++ note ∷ []) ≡ (is_noted number journal || (note.set == number))
is_noted-push number [] note = grind (arith, nat_tests)
is_noted-push number (older ∷ journal) note = rw (is_noted-push number journal note) (or_assoc (older.set == number) (is_noted number journal) (note.set == number))
  where
    or_assoc : (a b c : Bool) → (a || (b || c)) ≡ ((a || b) || c)
    or_assoc true b c = refl
    or_assoc false b c = refl
