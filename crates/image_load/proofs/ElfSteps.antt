-- The checks of an ELF file, one part after another.
use Rattle.std.proofs.Common.{◌≡◌, ℕ, true, false, cond, List, [], ◌∷◌, ◌++◌, Some, None, Result, Ok, Err, sym, ap, ◌∙◌, length}
use Rattle.slack_base.specs.declared.faults.ImageFault.{ImageFault}
use Rattle.slack_base.specs.declared.faults.ImageFault.TheVariants.{Entry}
use Rattle.image_load.specs.declared.elf.ElfHeader.{ElfHeader}
use Rattle.image_load.specs.declared.layouts.Load.{Load}
use Rattle.image_load.specs.declared.layouts.Layout.{Layout}
use Rattle.slack_base.specs.Checks.{first_fault, unless_fault}
use Rattle.image_load.specs.Checks.{Check, is_word_of}
use Rattle.image_load.specs.LoadChecks.{load_checks}
use Rattle.image_load.specs.Elf.{elf_header, program_headers, loads_of, header_checks, elf_checks, elf_layout}
use Rattle.image_load.proofs.Accepted.{accepted, refused, passed, found}

abbrev pub file_loads : List ℕ → List Load
file_loads bytes = loads_of (program_headers bytes (elf_header bytes))

abbrev pub file_load_checks : (base memory : ℕ) → List ℕ → List Check
file_load_checks base memory bytes = load_checks base memory (length bytes) [] (file_loads bytes)

abbrev pub entry_check : (base memory : ℕ) → List ℕ → Check
entry_check base memory bytes =
    (is_word_of base memory (elf_header bytes).entry, Entry (elf_header bytes).entry)

-- what the whole file gives, by what its parts gave
module _ (base memory : ℕ) (bytes : List ℕ) where
  abbrev pub whole : Result Layout ImageFault
  whole = unless_fault (first_fault (elf_checks base memory bytes)) (elf_layout bytes (elf_header bytes))

  with_fault : (f : ImageFault) → first_fault (elf_checks base memory bytes) ≡ Some f → whole ≡ Err f
  with_fault f h = ap (λ o. unless_fault o (elf_layout bytes (elf_header bytes))) h

  pub header_fault : (f : ImageFault) → unless_fault (first_fault (header_checks bytes)) (elf_header bytes) ≡ Err f → whole ≡ Err f
  unfolding elf_checks
  header_fault f h =
      let loads = file_load_checks base memory bytes in
      let first = refused (first_fault (header_checks bytes)) (elf_header bytes) f h in
      with_fault f (found (header_checks bytes ++ loads) (entry_check base memory bytes ∷ []) f (found (header_checks bytes) loads f first))

  module _ (header : ElfHeader) (read : unless_fault (first_fault (header_checks bytes)) (elf_header bytes) ≡ Ok header) where
    pub header_is : elf_header bytes ≡ header
    header_is = (accepted (first_fault (header_checks bytes)) (elf_header bytes) header read).1

    before_loads : first_fault (header_checks bytes ++ file_load_checks base memory bytes) ≡ first_fault (file_load_checks base memory bytes)
    before_loads = passed (header_checks bytes) (file_load_checks base memory bytes) (accepted (first_fault (header_checks bytes)) (elf_header bytes) header read).0

    abbrev pub loads_read : Result (List Load) ImageFault
    loads_read = let loads = loads_of (program_headers bytes header) in unless_fault (first_fault (load_checks base memory (length bytes) [] loads)) loads

    same_loads : loads_read ≡ unless_fault (first_fault (file_load_checks base memory bytes)) (file_loads bytes)
    same_loads = ap (λ h. let loads = loads_of (program_headers bytes h) in unless_fault (first_fault (load_checks base memory (length bytes) [] loads)) loads) (sym header_is)

    pub load_fault : (f : ImageFault) → loads_read ≡ Err f → whole ≡ Err f
    unfolding elf_checks
    load_fault f h =
        let l = refused (first_fault (file_load_checks base memory bytes)) (file_loads bytes) f (sym same_loads ∙ h) in
        with_fault f (found (header_checks bytes ++ file_load_checks base memory bytes) (entry_check base memory bytes ∷ []) f (before_loads ∙ l))

    module _ (loads : List Load) (ok : loads_read ≡ Ok loads) where
      loads_ok : (first_fault (file_load_checks base memory bytes) ≡ None) × (file_loads bytes ≡ loads)
      loads_ok = accepted (first_fault (file_load_checks base memory bytes)) (file_loads bytes) loads (sym same_loads ∙ ok)

      up_to_entry : first_fault (elf_checks base memory bytes) ≡ cond (is_word_of base memory header.entry) None (Some (Entry header.entry))
      unfolding elf_checks
      up_to_entry =
          passed (header_checks bytes ++ file_load_checks base memory bytes) (entry_check base memory bytes ∷ []) (before_loads ∙ loads_ok.0)
          ∙ ap (λ (h : ElfHeader). first_fault ((is_word_of base memory h.entry, Entry h.entry) ∷ [])) header_is

      pub entry_fault : is_word_of base memory header.entry ≡ false → whole ≡ Err (Entry header.entry)
      entry_fault h =
          with_fault (Entry header.entry) (up_to_entry ∙ ap (λ b. cond b None (Some (Entry header.entry))) h)

      pub no_fault : is_word_of base memory header.entry ≡ true → whole ≡ Ok (record { entry = header.entry; loads = loads })
      no_fault h =
          ap (λ o. unless_fault o (elf_layout bytes (elf_header bytes))) (up_to_entry ∙ ap (λ b. cond b None (Some (Entry header.entry))) h)
          ∙ ap (λ (h : ElfHeader). Ok (record { entry = h.entry; loads = file_loads bytes })) header_is
          ∙ ap (λ (l : List Load). Ok (record { entry = header.entry; loads = l })) loads_ok.1
