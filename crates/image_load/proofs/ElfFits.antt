-- The layout of an ELF file without a fault can be loaded.
use Rattle.std.proofs.Common.{◌≡◌, ℕ, ◌+◌, ◌<◌, ◌≤◌, true, false, cond, List, [], ◌∷◌, ◌++◌, None, refl, arith, length, map, filter, nat_le, nat_lt, ◌||◌, ◌&&◌, eqb, inl, inr}
use Rattle.std.specs.List.{AllByRecursion}
use Rattle.std.proofs.lemmas.Bool.Decides.{nat_tests}
use Rattle.slack_base.specs.declared.faults.ImageFault.TheVariants.{Short, Segment, Outside}
use Rattle.image_load.specs.declared.layouts.Load.{Load}
use Rattle.image_load.specs.declared.elf.ProgramHeader.{ProgramHeader}
use Rattle.slack_base.specs.Checks.{first_fault}
use Rattle.image_load.specs.Checks.{Check, is_in_memory}
use Rattle.image_load.specs.LoadChecks.{are_apart, overlap_check, checks_of, load_checks}
use Rattle.image_load.specs.Elf.{elf_header, program_headers, is_load, loads_of, header_checks, elf_checks, elf_layout}
use Rattle.image_load.proofs.Accepted.{none_failed, all_passed, word_from_test, range_from_test, IsLoadable, AreApart, AllApart, IsLoadableLayout}
use Rattle.image_load.proofs.ElfSteps.{file_load_checks, entry_check}

-- the piece has bytes, of the file or of memory
abbrev HasBytes : Load → Type 0
HasBytes load = 0 < load.memory_size + load.file_size

has_bytes : (headers : List ProgramHeader) → AllByRecursion HasBytes (loads_of headers)
has_bytes [] = tt
has_bytes (h ∷ headers) =
    elim (is_load h) as (λ b. is_load h ≡ b → AllByRecursion HasBytes (map (λ (x : ProgramHeader). x.load) (cond b (h ∷ filter is_load headers) (filter is_load headers)))) [
      | true ↦ λ e. (grind (arith, nat_tests), has_bytes headers)
      | false ↦ λ e. has_bytes headers
    ] refl

apart_from_test : (a b : Load) → are_apart a b ≡ true → AreApart a b
apart_from_test a b h =
    let low = nat_le (a.address + a.memory_size) b.address in
    let high = nat_le (b.address + b.memory_size) a.address in
    elim (nat_le (a.address + a.memory_size) b.address) as (λ t. nat_le (a.address + a.memory_size) b.address ≡ t → (t || high) ≡ true → AreApart a b) [
      | true ↦ λ e _. inl (grind (arith, nat_tests))
      | false ↦ λ e test. inr (grind (arith, nat_tests))
    ] refl h

pub all_apart_from : (load : Load) (earlier : List Load) → first_fault (map (overlap_check load) earlier) ≡ None → AllByRecursion (λ e. AreApart e load) earlier
all_apart_from load [] h = tt
all_apart_from load (other ∷ earlier) h =
    let a = none_failed (overlap_check load other) (map (overlap_check load) earlier) h in
    (apart_from_test other load a.0, all_apart_from load earlier a.1)

-- a piece whose checks hold
record IsPassed (base memory : ℕ) (earlier : List Load) (load : Load) : Type 0 where
  loadable : IsLoadable base memory load
  apart : AllByRecursion (λ e. AreApart e load) earlier

load_passed : (base memory have : ℕ) (earlier : List Load) (load : Load) → HasBytes load → first_fault (checks_of base memory have earlier load) ≡ None → IsPassed base memory earlier load
unfolding checks_of
load_passed base memory have earlier load bytes h =
    let third : Check = (is_in_memory base memory load.address load.memory_size, Outside load.index) in
    let second : Check = (eqb load.file_size 0 || nat_le (load.offset + load.file_size) have, Short have (load.offset + load.file_size)) in
    let first : Check = (nat_le load.file_size load.memory_size && nat_lt (length earlier) 64, Segment load.index) in
    let overlaps = map (overlap_check load) earlier in
    let a = none_failed first (second ∷ third ∷ overlaps) h in
    let b = none_failed second (third ∷ overlaps) a.1 in
    let c = none_failed third overlaps b.1 in
    let within : load.file_size ≤ load.memory_size = grind (arith, nat_tests, a.0) in
    let inside = range_from_test base memory load.address load.memory_size c.0 in
    record {
      loadable = record { size = omega arith; bytes = within; low = inside.0; high = inside.1 };
      apart = all_apart_from load earlier c.1;
    }

-- room for one more piece
pub has_room : (base memory have : ℕ) (earlier : List Load) (load : Load) → first_fault (checks_of base memory have earlier load) ≡ None → length earlier < 64
unfolding checks_of
has_room base memory have earlier load h =
    let third : Check = (is_in_memory base memory load.address load.memory_size, Outside load.index) in
    let second : Check = (eqb load.file_size 0 || nat_le (load.offset + load.file_size) have, Short have (load.offset + load.file_size)) in
    let first : Check = (nat_le load.file_size load.memory_size && nat_lt (length earlier) 64, Segment load.index) in
    let a = none_failed first (second ∷ third ∷ map (overlap_check load) earlier) h in
    grind (arith, nat_tests, a.0)

parts : (P : Load → Type 0) (xs ys : List Load) → AllByRecursion P (xs ++ ys) → AllByRecursion P xs × AllByRecursion P ys
parts P [] ys h = (tt, h)
parts P (x ∷ xs) ys h = let rest = parts P xs ys h.1 in ((h.0, rest.0), rest.1)

-- of each later piece: it is apart from the earlier ones, and from the one behind them
pub split_apart : (earlier : List Load) (load : Load) (loads : List Load) → AllByRecursion (λ r. AllByRecursion (λ e. AreApart e r) (earlier ++ load ∷ [])) loads → AllByRecursion (λ r. AllByRecursion (λ e. AreApart e r) earlier) loads × AllByRecursion (AreApart load) loads
split_apart earlier load [] h = (tt, tt)
split_apart earlier load (r ∷ loads) h =
    let one = parts (λ e. AreApart e r) earlier (load ∷ []) h.0 in
    let rest = split_apart earlier load loads h.1 in
    ((one.0, rest.0), (one.1.0, rest.1))

-- pieces whose checks hold
pub record ArePassed (base memory : ℕ) (earlier loads : List Load) : Type 0 where
  pub loadable : AllByRecursion (IsLoadable base memory) loads
  pub from_earlier : AllByRecursion (λ r. AllByRecursion (λ e. AreApart e r) earlier) loads
  pub apart : AllApart loads

loads_passed : (base memory have : ℕ) (earlier loads : List Load) → AllByRecursion HasBytes loads → first_fault (load_checks base memory have earlier loads) ≡ None → ArePassed base memory earlier loads
unfolding load_checks
loads_passed base memory have earlier [] bytes h = record { loadable = tt; from_earlier = tt; apart = tt }
loads_passed base memory have earlier (load ∷ loads) bytes h =
    let a = all_passed (checks_of base memory have earlier load) (load_checks base memory have (earlier ++ load ∷ []) loads) h in
    let one = load_passed base memory have earlier load bytes.0 a.0 in
    let rest = loads_passed base memory have (earlier ++ load ∷ []) loads bytes.1 a.1 in
    let split = split_apart earlier load loads rest.from_earlier in
    record {
      loadable = (one.loadable, rest.loadable);
      from_earlier = (one.apart, split.0);
      apart = (split.1, rest.apart);
    }

pub elf_loadable : (base memory : ℕ) (bytes : List ℕ) → first_fault (elf_checks base memory bytes) ≡ None → IsLoadableLayout base memory (elf_layout bytes (elf_header bytes))
unfolding elf_checks
elf_loadable base memory bytes h =
    let headers = program_headers bytes (elf_header bytes) in
    let entry = entry_check base memory bytes in
    let a = all_passed (header_checks bytes ++ file_load_checks base memory bytes) (entry ∷ []) h in
    let b = all_passed (header_checks bytes) (file_load_checks base memory bytes) a.0 in
    let c = none_failed entry [] a.1 in
    let loads = loads_passed base memory (length bytes) [] (loads_of headers) (has_bytes headers) b.1 in
    record {
      loads = loads.loadable;
      apart = loads.apart;
      entry = word_from_test base memory (elf_header bytes).entry c.0;
    }
