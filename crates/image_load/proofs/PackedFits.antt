-- The layout of an SLK2 file without a fault can be loaded.
use Rattle.std.proofs.Common.{◌≡◌, ℕ, ◌+◌, ◌≤◌, true, false, cond, List, [], ◌∷◌, ◌++◌, None, refl, subst, arith, length, map, filter, nat_le}
use Rattle.std.proofs.lemmas.List.{append-nil}
use Rattle.std.proofs.lemmas.Bool.Decides.{nat_tests}
use Rattle.slack_base.specs.declared.faults.ImageFault.TheVariants.{Short, Segment, Outside}
use Rattle.image_load.specs.declared.layouts.Load.{Load}
use Rattle.slack_base.specs.Checks.{first_fault}
use Rattle.image_load.specs.Checks.{Check, is_in_memory}
use Rattle.image_load.specs.LoadChecks.{overlap_check}
use Rattle.image_load.specs.Packed.{packed_header, takes_memory, head_checks, piece_checks, pieces_checks, packed_checks, packed_layout}
use Rattle.image_load.proofs.Accepted.{none_failed, all_passed, word_from_test, range_from_test, IsLoadable, IsLoadableLayout}
use Rattle.image_load.proofs.ElfFits.{ArePassed, all_apart_from, split_apart}
use Rattle.image_load.proofs.PackedSteps.{file_pieces, file_piece_checks, packed_entry_check}

module _ (base memory have : ℕ) where
  -- a piece that takes memory, before others
  one_passed : (earlier : List Load) (piece : Load) (loads : List Load) → takes_memory piece ≡ true
      → first_fault ((nat_le piece.file_size piece.memory_size, Segment piece.index)
      ∷ (nat_le (piece.offset + piece.file_size) have, Short have (piece.offset + piece.file_size))
      ∷ (is_in_memory base memory piece.address piece.memory_size, Outside piece.index)
      ∷ map (overlap_check piece) earlier) ≡ None
      → ArePassed base memory (earlier ++ piece ∷ []) loads → ArePassed base memory earlier (piece ∷ loads)
  one_passed earlier piece loads some h rest =
      let overlaps = map (overlap_check piece) earlier in
      let third : Check = (is_in_memory base memory piece.address piece.memory_size, Outside piece.index) in
      let second : Check = (nat_le (piece.offset + piece.file_size) have, Short have (piece.offset + piece.file_size)) in
      let first : Check = (nat_le piece.file_size piece.memory_size, Segment piece.index) in
      let a = none_failed first (second ∷ third ∷ overlaps) h in
      let b = none_failed second (third ∷ overlaps) a.1 in
      let c = none_failed third overlaps b.1 in
      let size : 1 ≤ piece.memory_size = grind (arith, nat_tests, some) in
      let within : piece.file_size ≤ piece.memory_size = grind (arith, nat_tests, a.0) in
      let inside = range_from_test base memory piece.address piece.memory_size c.0 in
      let loadable : IsLoadable base memory piece = record { size = size; bytes = within; low = inside.0; high = inside.1 } in
      let split = split_apart earlier piece loads rest.from_earlier in
      record {
        loadable = (loadable, rest.loadable);
        from_earlier = (all_apart_from piece earlier c.1, split.0);
        apart = (split.1, rest.apart);
      }

  pieces_passed : (earlier pieces : List Load) → first_fault (pieces_checks base memory have earlier pieces) ≡ None → ArePassed base memory earlier (filter takes_memory pieces)
  unfolding piece_checks pieces_checks
  pieces_passed earlier [] h = record { loadable = tt; from_earlier = tt; apart = tt }
  pieces_passed earlier (piece ∷ pieces) h =
      let kept = filter takes_memory pieces in
      let overlaps = map (overlap_check piece) earlier in
      let third : Check = (is_in_memory base memory piece.address piece.memory_size, Outside piece.index) in
      let second : Check = (nat_le (piece.offset + piece.file_size) have, Short have (piece.offset + piece.file_size)) in
      let first : Check = (nat_le piece.file_size piece.memory_size, Segment piece.index) in
      let a = all_passed (piece_checks base memory have earlier piece) (pieces_checks base memory have (earlier ++ filter takes_memory (piece ∷ [])) pieces) h in
      let rest = pieces_passed (earlier ++ filter takes_memory (piece ∷ [])) pieces a.1 in
      elim (takes_memory piece) as (λ b. takes_memory piece ≡ b → first_fault (first ∷ second ∷ cond b (third ∷ overlaps) []) ≡ None → ArePassed base memory (earlier ++ cond b (piece ∷ []) []) kept → ArePassed base memory earlier (cond b (piece ∷ kept) kept)) [
        | true ↦ λ some holds after. one_passed earlier piece kept some holds after
        | false ↦ λ some holds after. subst (λ es. ArePassed base memory es kept) (append-nil earlier) after
      ] refl a.0 rest

pub packed_loadable : (base memory : ℕ) (bytes : List ℕ) → first_fault (packed_checks base memory bytes) ≡ None → IsLoadableLayout base memory (packed_layout bytes (packed_header bytes))
unfolding packed_checks
packed_loadable base memory bytes h =
    let entry = packed_entry_check base memory bytes in
    let a = all_passed (head_checks bytes ++ file_piece_checks base memory bytes) (entry ∷ []) h in
    let b = all_passed (head_checks bytes) (file_piece_checks base memory bytes) a.0 in
    let c = none_failed entry [] a.1 in
    let loads = pieces_passed base memory (length bytes) [] (file_pieces bytes) b.1 in
    record {
      loads = loads.loadable;
      apart = loads.apart;
      entry = word_from_test base memory (packed_header bytes).entry c.0;
    }
