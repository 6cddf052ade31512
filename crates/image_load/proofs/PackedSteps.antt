-- The checks of an SLK2 file, one part after another.
use Rattle.std.proofs.Common.{◌≡◌, ℕ, true, false, cond, List, [], ◌∷◌, ◌++◌, Some, None, Result, Ok, Err, sym, ap, ◌∙◌, length, filter}
use Rattle.slack_base.specs.declared.faults.ImageFault.{ImageFault}
use Rattle.slack_base.specs.declared.faults.ImageFault.TheVariants.{Entry}
use Rattle.image_load.specs.declared.packed.PackedHeader.{PackedHeader}
use Rattle.image_load.specs.declared.layouts.Load.{Load}
use Rattle.image_load.specs.declared.layouts.Layout.{Layout}
use Rattle.slack_base.specs.Checks.{first_fault, unless_fault}
use Rattle.image_load.specs.Checks.{Check, is_word_of}
use Rattle.image_load.specs.Packed.{packed_header, pieces_under, takes_memory, head_checks, pieces_checks, packed_checks, packed_layout}
use Rattle.image_load.proofs.Accepted.{accepted, refused, passed, found}

abbrev pub file_pieces : List ℕ → List Load
file_pieces bytes = pieces_under bytes (packed_header bytes)

abbrev pub file_piece_checks : (base memory : ℕ) → List ℕ → List Check
file_piece_checks base memory bytes = pieces_checks base memory (length bytes) [] (file_pieces bytes)

abbrev pub packed_entry_check : (base memory : ℕ) → List ℕ → Check
packed_entry_check base memory bytes =
    (is_word_of base memory (packed_header bytes).entry, Entry (packed_header bytes).entry)

-- what the whole file gives, by what its parts gave
module _ (base memory : ℕ) (bytes : List ℕ) where
  abbrev pub whole : Result Layout ImageFault
  whole = unless_fault (first_fault (packed_checks base memory bytes)) (packed_layout bytes (packed_header bytes))

  with_fault : (f : ImageFault) → first_fault (packed_checks base memory bytes) ≡ Some f → whole ≡ Err f
  with_fault f h = ap (λ o. unless_fault o (packed_layout bytes (packed_header bytes))) h

  pub header_fault : (f : ImageFault) → unless_fault (first_fault (head_checks bytes)) (packed_header bytes) ≡ Err f → whole ≡ Err f
  unfolding packed_checks
  header_fault f h =
      let pieces = file_piece_checks base memory bytes in
      let first = refused (first_fault (head_checks bytes)) (packed_header bytes) f h in
      with_fault f (found (head_checks bytes ++ pieces) (packed_entry_check base memory bytes ∷ []) f (found (head_checks bytes) pieces f first))

  module _ (header : PackedHeader) (read : unless_fault (first_fault (head_checks bytes)) (packed_header bytes) ≡ Ok header) where
    header_is : packed_header bytes ≡ header
    header_is = (accepted (first_fault (head_checks bytes)) (packed_header bytes) header read).1

    before_pieces : first_fault (head_checks bytes ++ file_piece_checks base memory bytes) ≡ first_fault (file_piece_checks base memory bytes)
    before_pieces = passed (head_checks bytes) (file_piece_checks base memory bytes) (accepted (first_fault (head_checks bytes)) (packed_header bytes) header read).0

    abbrev pub pieces_read : Result (List Load) ImageFault
    pieces_read = let pieces = pieces_under bytes header in unless_fault (first_fault (pieces_checks base memory (length bytes) [] pieces)) (filter takes_memory pieces)

    same_pieces : pieces_read ≡ unless_fault (first_fault (file_piece_checks base memory bytes)) (filter takes_memory (file_pieces bytes))
    same_pieces = ap (λ h. let pieces = pieces_under bytes h in unless_fault (first_fault (pieces_checks base memory (length bytes) [] pieces)) (filter takes_memory pieces)) (sym header_is)

    pub piece_fault : (f : ImageFault) → pieces_read ≡ Err f → whole ≡ Err f
    unfolding packed_checks
    piece_fault f h =
        let l = refused (first_fault (file_piece_checks base memory bytes)) (filter takes_memory (file_pieces bytes)) f (sym same_pieces ∙ h) in
        with_fault f (found (head_checks bytes ++ file_piece_checks base memory bytes) (packed_entry_check base memory bytes ∷ []) f (before_pieces ∙ l))

    module _ (loads : List Load) (ok : pieces_read ≡ Ok loads) where
      loads_ok : (first_fault (file_piece_checks base memory bytes) ≡ None) × (filter takes_memory (file_pieces bytes) ≡ loads)
      loads_ok = accepted (first_fault (file_piece_checks base memory bytes)) (filter takes_memory (file_pieces bytes)) loads (sym same_pieces ∙ ok)

      up_to_entry : first_fault (packed_checks base memory bytes) ≡ cond (is_word_of base memory header.entry) None (Some (Entry header.entry))
      unfolding packed_checks
      up_to_entry =
          passed (head_checks bytes ++ file_piece_checks base memory bytes) (packed_entry_check base memory bytes ∷ []) (before_pieces ∙ loads_ok.0)
          ∙ ap (λ (h : PackedHeader). first_fault ((is_word_of base memory h.entry, Entry h.entry) ∷ [])) header_is

      pub entry_fault : is_word_of base memory header.entry ≡ false → whole ≡ Err (Entry header.entry)
      entry_fault h =
          with_fault (Entry header.entry) (up_to_entry ∙ ap (λ b. cond b None (Some (Entry header.entry))) h)

      pub no_fault : is_word_of base memory header.entry ≡ true → whole ≡ Ok (record { entry = header.entry; loads = loads })
      no_fault h =
          ap (λ o. unless_fault o (packed_layout bytes (packed_header bytes))) (up_to_entry ∙ ap (λ b. cond b None (Some (Entry header.entry))) h)
          ∙ ap (λ (h : PackedHeader). Ok (record { entry = h.entry; loads = filter takes_memory (file_pieces bytes) })) header_is
          ∙ ap (λ (l : List Load). Ok (record { entry = header.entry; loads = l })) loads_ok.1
