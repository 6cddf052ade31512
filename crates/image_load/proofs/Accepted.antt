-- What follows where no check fails.
use Rattle.std.proofs.Common.{◌≡◌, ℕ, ◌+◌, ◌≤◌, true, false, cond, List, [], ◌∷◌, ◌++◌, Option, Some, None, Ok, Err, refl, arith, length-take, drop, map}
use Rattle.std.specs.List.{All, AllPairs, AllByRecursion}
use Rattle.std.proofs.lemmas.Bool.Decides.{nat_tests}
use Rattle.std.proofs.lemmas.List.Elements.{All-nil, All-cons}
use Rattle.std.proofs.lemmas.List.Kept.{AllPairs-cons}
use Rattle.slack_base.specs.declared.faults.ImageFault.{ImageFault}
use Rattle.slack_base.specs.Images.{IsInMemory, IsApart, IsWordOf, Fits}
use Rattle.image_load.specs.declared.layouts.Load.{Load}
use Rattle.image_load.specs.declared.layouts.Layout.{Layout}
use Rattle.slack_base.specs.Checks.{first_fault, unless_fault}
use Rattle.image_load.specs.Checks.{Check, is_in_memory, is_word_of}
use Rattle.image_load.specs.Layouts.{segment_of, image_in}

-- the first of checks that all hold, and the others
pub none_failed : (check : Check) (checks : List Check) → first_fault (check ∷ checks) ≡ None → (check.0 ≡ true) × (first_fault checks ≡ None)
none_failed check checks h =
    elim (check.0) as (λ b. cond b (first_fault checks) (Some check.1) ≡ None → (b ≡ true) × (first_fault checks ≡ None)) [
      | true ↦ λ e. (refl, e)
      | false ↦ λ e. absurd cc
    ] h

-- what was accepted, and what was refused
pub accepted : {X : Type 0} (o : Option ImageFault) (x y : X) → unless_fault o x ≡ Ok y → (o ≡ None) × (x ≡ y)
accepted None x y h = (refl, cc)
accepted (Some f) x y h = absurd cc

pub refused : {X : Type 0} (o : Option ImageFault) (x : X) (f : ImageFault) → unless_fault o x ≡ Err f → o ≡ Some f
refused None x f h = absurd cc
refused (Some g) x f h = cc

-- checks behind others
pub passed : (a b : List Check) → first_fault a ≡ None → first_fault (a ++ b) ≡ first_fault b
passed [] b h = refl
passed (check ∷ a) b h =
    elim (check.0) as (λ t. cond t (first_fault a) (Some check.1) ≡ None → cond t (first_fault (a ++ b)) (Some check.1) ≡ first_fault b) [
      | true ↦ λ e. passed a b e
      | false ↦ λ e. absurd cc
    ] h

pub found : (a b : List Check) (f : ImageFault) → first_fault a ≡ Some f → first_fault (a ++ b) ≡ Some f
found [] b f h = absurd cc
found (check ∷ a) b f h =
    elim (check.0) as (λ t. cond t (first_fault a) (Some check.1) ≡ Some f → cond t (first_fault (a ++ b)) (Some check.1) ≡ Some f) [
      | true ↦ λ e. found a b f e
      | false ↦ λ e. e
    ] h

pub all_passed : (a b : List Check) → first_fault (a ++ b) ≡ None → (first_fault a ≡ None) × (first_fault b ≡ None)
all_passed [] b h = (refl, h)
all_passed (check ∷ a) b h =
    elim (check.0) as (λ t. cond t (first_fault (a ++ b)) (Some check.1) ≡ None → (cond t (first_fault a) (Some check.1) ≡ None) × (first_fault b ≡ None)) [
      | true ↦ λ e. all_passed a b e
      | false ↦ λ e. absurd cc
    ] h

pub word_from_test : (base memory address : ℕ) → is_word_of base memory address ≡ true → IsWordOf base memory address
word_from_test base memory address h =
    record { aligned = grind (arith, nat_tests); low = grind (arith, nat_tests); high = grind (arith, nat_tests) }

pub range_from_test : (base memory address size : ℕ) → is_in_memory base memory address size ≡ true → (base ≤ address) × (address + size ≤ base + memory)
range_from_test base memory address size h = (grind (arith, nat_tests), grind (arith, nat_tests))

-- a piece of memory that is loaded lies in memory
pub record IsLoadable (base memory : ℕ) (load : Load) : Type 0 where
  pub size : 1 ≤ load.memory_size
  pub bytes : load.file_size ≤ load.memory_size
  pub low : base ≤ load.address
  pub high : load.address + load.memory_size ≤ base + memory

abbrev pub AreApart : Load → Load → Type 0
AreApart a b = IsApart (segment_of [] a) (segment_of [] b)

-- the pieces share no address
abbrev pub AllApart : List Load → Type 0
AllApart [] = Unit {0}
AllApart (a ∷ loads) = AllByRecursion (AreApart a) loads × AllApart loads

pub record IsLoadableLayout (base memory : ℕ) (layout : Layout) : Type 0 where
  pub loads : AllByRecursion (IsLoadable base memory) layout.loads
  pub apart : AllApart layout.loads
  pub entry : IsWordOf base memory layout.entry

segment_in : (base memory : ℕ) (bytes : List ℕ) (load : Load) → IsLoadable base memory load → IsInMemory base memory (segment_of bytes load)
segment_in base memory bytes load h = record {
  size = h.size;
  bytes = omega (arith, length-take load.file_size (drop load.offset bytes), h.bytes);
  low = h.low;
  high = h.high;
}

segments_in : (base memory : ℕ) (bytes : List ℕ) (loads : List Load) → AllByRecursion (IsLoadable base memory) loads → All (IsInMemory base memory) (map (segment_of bytes) loads)
segments_in base memory bytes [] h = All-nil (IsInMemory base memory)
segments_in base memory bytes (load ∷ loads) h =
    All-cons (IsInMemory base memory) (segment_of bytes load) (map (segment_of bytes) loads) (segment_in base memory bytes load h.0)
    (segments_in base memory bytes loads h.1)

apart_from : (bytes : List ℕ) (a : Load) (loads : List Load) → AllByRecursion (AreApart a) loads → All (IsApart (segment_of bytes a)) (map (segment_of bytes) loads)
apart_from bytes a [] h = All-nil (IsApart (segment_of bytes a))
apart_from bytes a (b ∷ loads) h =
    All-cons (IsApart (segment_of bytes a)) (segment_of bytes b) (map (segment_of bytes) loads) h.0 (apart_from bytes a loads h.1)

segments_apart : (bytes : List ℕ) (loads : List Load) → AllApart loads → AllPairs IsApart (map (segment_of bytes) loads)
segments_apart bytes [] h = λ i j d before within. absurd (omega arith)
segments_apart bytes (a ∷ loads) h =
    AllPairs-cons IsApart (segment_of bytes a) (map (segment_of bytes) loads) (apart_from bytes a loads h.0) (segments_apart bytes loads h.1)

-- the image of such a layout fits
pub image_fits : (base memory : ℕ) (bytes : List ℕ) (layout : Layout) → IsLoadableLayout base memory layout → Fits base memory (image_in bytes layout)
image_fits base memory bytes layout h = record {
  segments = segments_in base memory bytes layout.loads h.loads;
  apart = segments_apart bytes layout.loads h.apart;
  entry = h.entry;
}
