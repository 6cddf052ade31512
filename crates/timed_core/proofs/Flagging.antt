-- The flags of the sets that stand in a journal.
use Rattle.std.proofs.Common.{◌≡◌, ◌∙◌, ℕ, zero, suc, ◌+◌, ◌<◌, ◌≤◌, ◌==◌, ◌||◌, Bool, true, false, List, [], ◌∷◌, ◌++◌, length, get_or, Some, replicate, inl, inr, refl, sym, ap, subst, arith}
use Rattle.std.specs.Prelude.{slice_set}
use Rattle.std.proofs.lemmas.Bool.{cases_eq, true≢false}
use Rattle.std.proofs.lemmas.Bool.Decides.{nat_tests}
use Rattle.std.proofs.lemmas.List.{length-set, length-replicate, length_push, get_or-set_same, get_or-set_other}
use Rattle.std.proofs.lemmas.List.Elements.{All-nil, All-push, All-pop}
use Rattle.timed_core.specs.declared.noted_sets.SetNote.{SetNote}
use Rattle.timed_core.specs.Journals.{is_noted, count_up, IsNoteOf, IsFlagged}
use Rattle.timed_core.proofs.Restoring.{is_noted-push}

pub count_up-most : (flags : List Bool) → count_up flags ≤ length flags
count_up-most [] = omega arith
count_up-most (true ∷ flags) = omega (arith, count_up-most flags)
count_up-most (false ∷ flags) = omega (arith, count_up-most flags)

-- one more flag is up
count_up-raise : (flags : List Bool) (number : ℕ) → number < length flags → get_or flags number false ≡ false → count_up (slice_set flags number true) ≡ count_up flags + 1
count_up-raise [] number inside down = absurd (omega arith)
count_up-raise (true ∷ flags) zero inside down = absurd (cc)
count_up-raise (false ∷ flags) zero inside down = refl
count_up-raise (true ∷ flags) (suc number) inside down = ap (λ n. n + 1) (count_up-raise flags number (omega arith) down)
count_up-raise (false ∷ flags) (suc number) inside down = count_up-raise flags number (omega arith) down

-- at most one fewer is
count_up-lower : (flags : List Bool) (number : ℕ) → count_up flags ≤ count_up (slice_set flags number false) + 1
count_up-lower [] number = omega arith
count_up-lower (true ∷ flags) zero = omega arith
count_up-lower (false ∷ flags) zero = omega arith
count_up-lower (true ∷ flags) (suc number) = omega (arith, count_up-lower flags number)
count_up-lower (false ∷ flags) (suc number) = count_up-lower flags number

or_right : (a b : Bool) → b ≡ true → (a || b) ≡ true
or_right true b h = refl
or_right false b h = h

or_left : (a b : Bool) → a ≡ true → (a || b) ≡ true
or_left true b h = refl
or_left false b h = absurd (cc)

itself : (number k : ℕ) → number ≡ k → (number == k) ≡ true
itself number k e = grind (arith, nat_tests)

not_last : (number k : ℕ) (b : Bool) → (k ≡ number → ⊥) → (b || (number == k)) ≡ true → b ≡ true
not_last number k b other h = grind (arith, nat_tests)

pub noted-last : (number : ℕ) (journal : List SetNote) (note : SetNote) → note.set ≡ number → is_noted number (journal ++ note ∷ []) ≡ true
noted-last number journal note same = is_noted-push number journal note ∙ or_right (is_noted number journal) (note.set == number) (itself note.set number same)

-- a set whose flag is down is noted, and its flag goes up
pub flagged-push : (flags : List Bool) (sets ways : ℕ) (journal : List SetNote) (note : SetNote) (number : ℕ) → IsFlagged flags sets ways journal → note.set ≡ number
    → number < sets → IsNoteOf sets ways note → get_or flags number false ≡ false → IsFlagged (slice_set flags number true) sets ways (journal ++ note ∷ [])
flagged-push flags sets ways journal note number s same within is_note down =
    record {
      each = length-set flags number true ∙ s.each;
      up = λ k h. elim (cases_eq k number) [
        | inl at_number ↦ is_noted-push k journal note ∙ or_right (is_noted k journal) (note.set == k) (itself note.set k (same ∙ sym at_number))
        | inr other ↦
            is_noted-push k journal note
            ∙ or_left (is_noted k journal) (note.set == k) (s.up k (sym (get_or-set_other flags number k true false other) ∙ h))
      ];
      proper = All-push (IsNoteOf sets ways) journal note s.proper is_note;
      few = omega (arith, length_push journal note, count_up-raise flags number (omega (arith, s.each)) down, s.few);
    }

-- a flag that went down isn't up
down : (flags : List Bool) (number k : ℕ) → number < length flags → k ≡ number → get_or (slice_set flags number false) k false ≡ true → ⊥
down flags number k within same h =
    let low : get_or (slice_set flags number false) k false ≡ false = ap (λ j. get_or (slice_set flags number false) j false) same ∙ get_or-set_same flags number false false within in
    cc

-- the latest note is taken out, and the flag of its set goes down
pub flagged-pop : (flags : List Bool) (sets ways : ℕ) (journal : List SetNote) (note : SetNote) → IsFlagged flags sets ways (journal ++ note ∷ [])
    → IsFlagged (slice_set flags note.set false) sets ways journal
flagged-pop flags sets ways journal note s =
    let popped = All-pop (IsNoteOf sets ways) (journal ++ note ∷ []) journal (Some note) refl s.proper in
    let within : note.set < length flags = omega (arith, popped.1.0, s.each) in
    record {
      each = length-set flags note.set false ∙ s.each;
      up = λ k h. elim (cases_eq k note.set) [
        | inl at_number ↦ absurd (down flags note.set k within at_number h)
        | inr other ↦
            not_last note.set k (is_noted k journal) other
            (sym (is_noted-push k journal note) ∙ s.up k (sym (get_or-set_other flags note.set k false false other) ∙ h))
      ];
      proper = popped.0;
      few = omega (arith, length_push journal note, count_up-lower flags note.set, s.few);
    }

-- the latest note is a proper one
pub last-proper : (flags : List Bool) (sets ways : ℕ) (journal : List SetNote) (note : SetNote) → IsFlagged flags sets ways (journal ++ note ∷ []) → IsNoteOf sets ways note
last-proper flags sets ways journal note s = (All-pop (IsNoteOf sets ways) (journal ++ note ∷ []) journal (Some note) refl s.proper).1

-- where the flag of a set is down, not all flags are up
pub one-down : (flags : List Bool) (number : ℕ) → number < length flags → get_or flags number false ≡ false → count_up flags < length flags
one-down flags number within low =
    let raised = count_up-raise flags number within low in
    let most = count_up-most (slice_set flags number true) in
    omega (arith, raised, most, length-set flags number true)

low : (n k : ℕ) → get_or (replicate n false) k false ≡ false
low zero k = refl
low (suc n) zero = refl
low (suc n) (suc k) = low n k

-- at first nothing is noted, and no flag is up
pub none-flagged : (flags : List Bool) (n sets ways : ℕ) (journal : List SetNote) → flags ≡ replicate n false → sets ≡ n → journal ≡ [] → IsFlagged flags sets ways journal
none-flagged flags n sets ways journal are is none =
    let each : length flags ≡ n = ap (λ (fs : List Bool). length fs) are ∙ length-replicate n false in
    let flagged : IsFlagged flags sets ways [] = record {
      each = each ∙ sym is;
      up = λ k h. absurd (true≢false (sym h ∙ ap (λ (fs : List Bool). get_or fs k false) are ∙ low n k));
      proper = All-nil (IsNoteOf sets ways);
      few = omega arith;
    } in
    subst (λ (js : List SetNote). IsFlagged flags sets ways js) (sym none) flagged
