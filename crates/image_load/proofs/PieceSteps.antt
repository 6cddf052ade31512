-- Going over the headers of an SLK2 file, one after another.
use Rattle.std.proofs.Common.{◌≡◌, ℕ, ◌+◌, ◌*◌, ◌-◌, ◌^◌, ◌<◌, ◌≤◌, suc, true, false, cond, List, [], ◌∷◌, ◌++◌, None, Some, sym, ◌∙◌, ap, arith, append_assoc, length, drop, filter}
use Rattle.std.proofs.lemmas.List.{drop-drop, append-nil, length-append}
use Rattle.std.proofs.lemmas.List.Elements.{filter-append}
use Rattle.slack_base.specs.declared.faults.ImageFault.{ImageFault}
use Rattle.image_load.specs.declared.layouts.Load.{Load}
use Rattle.image_load.specs.declared.packed.PackedHeader.{PackedHeader}
use Rattle.slack_base.specs.Checks.{first_fault}
use Rattle.image_load.specs.Packed.{packed_piece, packed_pieces, packed_end, pieces_under, takes_memory, piece_checks, pieces_checks}
use Rattle.image_load.proofs.Accepted.{passed, found}

-- the pieces of the headers from a number on, the bytes of the first of which begin at an offset
abbrev pub rest_from : (bytes : List ℕ) (count index offset : ℕ) → List Load
rest_from bytes count index offset = packed_pieces (count - index) index offset (drop (12 + 12 * index) bytes)

-- how what is kept of the pieces, and the first fault of them, are made of those so far and of the rest
pub record IsUpTo (base memory : ℕ) (bytes : List ℕ) (header : PackedHeader) (so_far : List Load) (index offset : ℕ) : Type 0 where
  pub kept : filter takes_memory (pieces_under bytes header) ≡ so_far ++ filter takes_memory (rest_from bytes header.count index offset)
  pub faults : first_fault (pieces_checks base memory (length bytes) [] (pieces_under bytes header)) ≡ first_fault (pieces_checks base memory (length bytes) so_far (rest_from bytes header.count index offset))
  pub few : length so_far ≤ index
  pub near : offset ≤ 2 ^ 32 * (index + 1)

one_at_most : (piece : Load) → length (filter takes_memory (piece ∷ [])) ≤ 1
one_at_most piece =
    elim (takes_memory piece) as (λ b. length (cond b (piece ∷ []) []) ≤ 1) [
      | true ↦ omega arith
      | false ↦ omega arith
    ]

module _ (base memory : ℕ) (bytes : List ℕ) (header : PackedHeader) where
  pub at_start : header.count ≤ 64 → IsUpTo base memory bytes header [] 0 (packed_end header)
  at_start few =
      let n = header.count in
      let all : rest_from bytes n 0 (packed_end header) ≡ pieces_under bytes header = ap (λ (k : ℕ). packed_pieces k 0 (packed_end header) (drop 12 bytes)) (omega arith) in
      record {
        kept = sym (ap (λ ps. filter takes_memory ps) all);
        faults = sym (ap (λ ps. first_fault (pieces_checks base memory (length bytes) [] ps)) all);
        few = omega arith;
        near = omega arith;
      }

  -- none is left
  pub at_end : (so_far : List Load) (index offset : ℕ) → header.count ≤ index → IsUpTo base memory bytes header so_far index offset
      → (filter takes_memory (pieces_under bytes header) ≡ so_far) × (first_fault (pieces_checks base memory (length bytes) [] (pieces_under bytes header)) ≡ None)
  unfolding packed_pieces pieces_checks
  at_end so_far index offset past u =
      let count = header.count in
      let rest = drop (12 + 12 * index) bytes in
      let all_done : count - index ≡ 0 = omega arith in
      let none : rest_from bytes count index offset ≡ [] = ap (λ (k : ℕ). packed_pieces k index offset rest) all_done in
      let passes : first_fault (pieces_checks base memory (length bytes) so_far (rest_from bytes count index offset)) ≡ None = ap (λ ps. first_fault (pieces_checks base memory (length bytes) so_far ps)) none in
      (u.kept ∙ ap (λ ps. so_far ++ filter takes_memory ps) none ∙ append-nil so_far, u.faults ∙ passes)

  module _ (so_far : List Load) (index offset : ℕ) (within : index < header.count) (this : Load) (is : this ≡ packed_piece index offset (drop (12 + 12 * index) bytes)) (u : IsUpTo base memory bytes header so_far index offset) where
    abbrev left : List Load
    left = rest_from bytes header.count (index + 1) (offset + this.file_size)

    next : rest_from bytes header.count index offset ≡ this ∷ left
    unfolding packed_pieces
    next =
        let rest = drop (12 + 12 * index) bytes in
        let piece = packed_piece index offset rest in
        let one_more : header.count - index ≡ suc (header.count - (index + 1)) = omega arith in
        let behind : drop 12 rest ≡ drop (12 + 12 * (index + 1)) bytes = drop-drop 12 (12 + 12 * index) bytes ∙ ap (λ (k : ℕ). drop k bytes) (omega arith) in
        ap (λ (k : ℕ). packed_pieces k index offset rest) one_more
        ∙ ap (λ ps. piece ∷ packed_pieces (header.count - (index + 1)) (index + 1) (offset + piece.file_size) ps) behind
        ∙ ap (λ (p : Load). p ∷ packed_pieces (header.count - (index + 1)) (index + 1) (offset + p.file_size) (drop (12 + 12 * (index + 1)) bytes)) (sym is)

    faults_are : first_fault (pieces_checks base memory (length bytes) [] (pieces_under bytes header))
        ≡ first_fault (piece_checks base memory (length bytes) so_far this ++ pieces_checks base memory (length bytes) (so_far ++ filter takes_memory (this ∷ [])) left)
    unfolding pieces_checks
    faults_are = u.faults ∙ ap (λ ps. first_fault (pieces_checks base memory (length bytes) so_far ps)) (next)

    pub one_on : this.file_size < 2 ^ 32 → first_fault (piece_checks base memory (length bytes) so_far this) ≡ None → IsUpTo base memory bytes header (so_far ++ filter takes_memory (this ∷ [])) (index + 1) (offset + this.file_size)
    one_on size none = record {
      kept = u.kept ∙ ap (λ ps. so_far ++ filter takes_memory ps) (next)
          ∙ ap (λ ps. so_far ++ ps) (filter-append takes_memory (this ∷ []) left)
          ∙ sym (append_assoc so_far (filter takes_memory (this ∷ [])) (filter takes_memory left));
      faults = faults_are ∙ passed (piece_checks base memory (length bytes) so_far this) (pieces_checks base memory (length bytes) (so_far ++ filter takes_memory (this ∷ [])) left) none;
      few = omega (arith, u.few, one_at_most this, length-append so_far (filter takes_memory (this ∷ [])));
      near = omega (arith, u.near);
    }

    pub at_fault : (f : ImageFault) → first_fault (piece_checks base memory (length bytes) so_far this) ≡ Some f → first_fault (pieces_checks base memory (length bytes) [] (pieces_under bytes header)) ≡ Some f
    at_fault f some =
        faults_are ∙ found (piece_checks base memory (length bytes) so_far this) (pieces_checks base memory (length bytes) (so_far ++ filter takes_memory (this ∷ [])) left) f some
