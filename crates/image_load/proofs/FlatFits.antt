-- The layout of an SLK1 file without a fault can be loaded.
use Rattle.std.proofs.Common.{◌≡◌, ℕ, ◌+◌, true, false, cond, List, [], ◌∷◌, None, refl, arith, length, nat_le, ◌||◌, eqb}
use Rattle.std.proofs.lemmas.Bool.Decides.{nat_tests}
use Rattle.slack_base.specs.declared.faults.ImageFault.TheVariants.{Short, Outside, Entry}
use Rattle.image_load.specs.declared.flat.FlatHeader.{FlatHeader}
use Rattle.image_load.specs.declared.layouts.Load.{Load}
use Rattle.slack_base.specs.Checks.{first_fault}
use Rattle.image_load.specs.Checks.{Check, is_in_memory, is_word_of}
use Rattle.image_load.specs.Flat.{flat_header, flat_checks, flat_layout}
use Rattle.image_load.proofs.Accepted.{none_failed, word_from_test, range_from_test, IsLoadable, IsLoadableLayout}

abbrev piece : FlatHeader → Load
piece header = record { index = 0; offset = 16; address = header.address; file_size = header.length; memory_size = header.length }

pub flat_loadable : (base memory : ℕ) (bytes : List ℕ) → first_fault (flat_checks base memory bytes) ≡ None → IsLoadableLayout base memory (flat_layout (flat_header bytes))
flat_loadable base memory bytes h =
    let have = length bytes in
    let header = flat_header bytes in
    let entry : Check = (is_word_of base memory header.entry, Entry header.entry) in
    let range : Check = ((eqb header.length 0) || is_in_memory base memory header.address header.length, Outside 0) in
    let second : Check = (nat_le (16 + header.length) have, Short have (16 + header.length)) in
    let first : Check = (nat_le 16 have, Short have 16) in
    let a = none_failed first (second ∷ range ∷ entry ∷ []) h in
    let b = none_failed second (range ∷ entry ∷ []) a.1 in
    let c = none_failed range (entry ∷ []) b.1 in
    let d = none_failed entry [] c.1 in
    let e = word_from_test base memory header.entry d.0 in
    elim (eqb header.length 0) as (λ b. eqb header.length 0 ≡ b → (b || is_in_memory base memory header.address header.length) ≡ true → IsLoadableLayout base memory (record { entry = header.entry; loads = cond b [] (piece header ∷ []) })) [
      | true ↦ λ empty holds. record { loads = tt; apart = tt; entry = e }
      | false ↦ λ some holds.
          let inside = range_from_test base memory header.address header.length holds in
          let loadable : IsLoadable base memory (piece header) = record { size = grind (arith, nat_tests); bytes = omega arith; low = inside.0; high = inside.1 } in
          record { loads = (loadable, tt); apart = (tt, tt); entry = e }
    ] refl c.0
