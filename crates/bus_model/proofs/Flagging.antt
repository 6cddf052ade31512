-- The flags of the lines that stand in a journal.
use Rattle.std.proofs.Common.{◌≡◌, ◌∙◌, ℕ, zero, suc, ◌+◌, ◌<◌, ◌≤◌, ◌==◌, ◌||◌, Bool, true, false, List, [], ◌∷◌, ◌++◌, length, get_or, Some, inl, inr, refl, sym, ap, arith}
use Rattle.std.specs.Prelude.{slice_set}
use Rattle.std.specs.List.{All}
use Rattle.std.proofs.lemmas.Bool.{cases_eq}
use Rattle.std.proofs.lemmas.Bool.Decides.{nat_tests}
use Rattle.std.proofs.lemmas.List.{length-set, length_push, get_or-set_same, get_or-set_other}
use Rattle.std.proofs.lemmas.List.Elements.{All-push, All-pop}
use Rattle.status_map.specs.declared.views.EntryView.{EntryView}
use Rattle.bus_model.specs.declared.lines.Note.{Note}
use Rattle.bus_model.specs.Journals.{is_noted, count_up, IsFlagged}
use Rattle.bus_model.proofs.Restoring.{is_noted-push}

pub count_up-most : (flags : List Bool) → count_up flags ≤ length flags
count_up-most [] = omega arith
count_up-most (true ∷ flags) = omega (arith, count_up-most flags)
count_up-most (false ∷ flags) = omega (arith, count_up-most flags)

-- one more flag is up
count_up-raise : (flags : List Bool) (place : ℕ) → place < length flags → get_or flags place false ≡ false → count_up (slice_set flags place true) ≡ count_up flags + 1
count_up-raise [] place inside down = absurd (omega arith)
count_up-raise (true ∷ flags) zero inside down = absurd (cc)
count_up-raise (false ∷ flags) zero inside down = refl
count_up-raise (true ∷ flags) (suc place) inside down = ap (λ n. n + 1) (count_up-raise flags place (omega arith) down)
count_up-raise (false ∷ flags) (suc place) inside down = count_up-raise flags place (omega arith) down

-- at most one fewer is
count_up-lower : (flags : List Bool) (place : ℕ) → count_up flags ≤ count_up (slice_set flags place false) + 1
count_up-lower [] place = omega arith
count_up-lower (true ∷ flags) zero = omega arith
count_up-lower (false ∷ flags) zero = omega arith
count_up-lower (true ∷ flags) (suc place) = omega (arith, count_up-lower flags place)
count_up-lower (false ∷ flags) (suc place) = count_up-lower flags place

or_right : (a b : Bool) → b ≡ true → (a || b) ≡ true
or_right true b h = refl
or_right false b h = h

or_left : (a b : Bool) → a ≡ true → (a || b) ≡ true
or_left true b h = refl
or_left false b h = absurd (cc)

itself : (place k : ℕ) → place ≡ k → (place == k) ≡ true
itself place k e = grind (arith, nat_tests)

not_last : (place k : ℕ) (b : Bool) → (k ≡ place → ⊥) → (b || (place == k)) ≡ true → b ≡ true
not_last place k b other h = grind (arith, nat_tests)

pub noted-last : (place : ℕ) (journal : List Note) (note : Note) → note.place ≡ place → is_noted place (journal ++ note ∷ []) ≡ true
noted-last place journal note same = is_noted-push place journal note ∙ or_right (is_noted place journal) (note.place == place) (itself note.place place same)

-- a line whose flag is down is noted, and its flag goes up
pub flagged-push : (flags : List Bool) (entries : List EntryView) (journal : List Note) (note : Note) (place : ℕ) → IsFlagged flags entries journal → note.place ≡ place
    → place < length entries → get_or flags place false ≡ false → IsFlagged (slice_set flags place true) entries (journal ++ note ∷ [])
flagged-push flags entries journal note place s same within down =
    record {
      each = length-set flags place true ∙ s.each;
      up = λ k h. elim (cases_eq k place) [
        | inl at_place ↦ is_noted-push k journal note ∙ or_right (is_noted k journal) (note.place == k) (itself note.place k (same ∙ sym at_place))
        | inr other ↦
            is_noted-push k journal note
            ∙ or_left (is_noted k journal) (note.place == k) (s.up k (sym (get_or-set_other flags place k true false other) ∙ h))
      ];
      inside = All-push (λ (n : Note). n.place < length entries) journal note s.inside (omega arith);
      few = omega (arith, length_push journal note, count_up-raise flags place (omega (arith, s.each)) down, s.few);
    }

-- a flag that went down isn't up
down : (flags : List Bool) (place k : ℕ) → place < length flags → k ≡ place → get_or (slice_set flags place false) k false ≡ true → ⊥
down flags place k within same h =
    let low : get_or (slice_set flags place false) k false ≡ false = ap (λ j. get_or (slice_set flags place false) j false) same ∙ get_or-set_same flags place false false within in
    cc

-- the latest note is taken out, and the flag of its line goes down
pub flagged-pop : (flags : List Bool) (entries : List EntryView) (journal : List Note) (note : Note) → IsFlagged flags entries (journal ++ note ∷ [])
    → IsFlagged (slice_set flags note.place false) entries journal
flagged-pop flags entries journal note s =
    let popped = All-pop (λ (n : Note). n.place < length entries) (journal ++ note ∷ []) journal (Some note) refl s.inside in
    let within : note.place < length flags = omega (arith, popped.1, s.each) in
    record {
      each = length-set flags note.place false ∙ s.each;
      up = λ k h. elim (cases_eq k note.place) [
        | inl at_place ↦ absurd (down flags note.place k within at_place h)
        | inr other ↦
            not_last note.place k (is_noted k journal) other
            (sym (is_noted-push k journal note) ∙ s.up k (sym (get_or-set_other flags note.place k false false other) ∙ h))
      ];
      inside = popped.0;
      few = omega (arith, length_push journal note, count_up-lower flags note.place, s.few);
    }

-- the latest note is of a line
pub last-inside : (entries : List EntryView) (journal : List Note) (note : Note) → All (λ n. n.place < length entries) (journal ++ note ∷ []) → note.place < length entries
last-inside entries journal note all = (All-pop (λ (n : Note). n.place < length entries) (journal ++ note ∷ []) journal (Some note) refl all).1
