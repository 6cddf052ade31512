-- An SLK1 file is read as the image that it was made of.
use Rattle.std.proofs.Common.{◌≡◌, ℕ, ◌+◌, ◌^◌, ◌<◌, Bool, true, false, cond, List, [], ◌∷◌, ◌++◌, Some, None, Ok, refl, ap, ◌∙◌, arith, length, nat_le, nat_lt, eqb, ◌||◌}
use Rattle.std.proofs.Math.Seq.{take-length}
use Rattle.std.proofs.lemmas.Bool.Decides.{nat_tests}
use Rattle.std.proofs.lemmas.List.Elements.{All-head}
use Rattle.byteorder.specs.Endian.{little_bytes}
use Rattle.byteorder.specs.Numbers.{little_number-reads_back}
use Rattle.slack_base.specs.declared.images.Image.{Image}
use Rattle.slack_base.specs.declared.faults.ImageFault.{ImageFault}
use Rattle.slack_base.specs.declared.faults.ImageFault.TheVariants.{Short, Magic, Outside, Entry}
use Rattle.slack_base.specs.Images.{IsInMemory, Fits}
use Rattle.image_load.specs.declared.flat.FlatHeader.{FlatHeader}
use Rattle.image_load.specs.Fields.{u32_at}
use Rattle.slack_base.specs.Checks.{first_fault, unless_fault}
use Rattle.image_load.specs.Checks.{Check, is_in_memory, is_word_of}
use Rattle.image_load.specs.Elf.{is_elf, elf_header, elf_checks, elf_layout}
use Rattle.image_load.specs.Flat.{is_flat, flat_header, flat_checks, flat_layout, flat_file}
use Rattle.image_load.specs.Packed.{is_packed, packed_header, packed_checks, packed_layout}
use Rattle.image_load.specs.Layouts.{image_in}
use Rattle.image_load.specs.Reading.{fault_of, layout_of, image_of}
use Rattle.slack_base.specs.Images.{one_piece}

-- the checks of a file with this header
abbrev checks_under : (base memory have : ℕ) → FlatHeader → List Check
checks_under base memory have header =
    (nat_le 16 have, Short have 16)
    ∷ (nat_le (16 + header.length) have, Short have (16 + header.length))
    ∷ ((eqb header.length 0) || is_in_memory base memory header.address header.length, Outside 0)
    ∷ (is_word_of base memory header.entry, Entry header.entry)
    ∷ []

all_hold : (a b c d : Bool) (f g h k : ImageFault) → a ≡ true → b ≡ true → c ≡ true → d ≡ true → first_fault ((a, f) ∷ (b, g) ∷ (c, h) ∷ (d, k) ∷ []) ≡ None
all_hold a b c d f g h k ha hb hc hd = rw (ha, hb, hc, hd) refl

module _ (address entry : ℕ) (bytes : List ℕ) (address_fits : address < 2 ^ 32) (entry_fits : entry < 2 ^ 32) (length_fits : length bytes < 2 ^ 32) where
  -- the numbers at the head of the file
  head : FlatHeader
  head = record { address = address; entry = entry; length = length bytes }

  address_at : u32_at 4 (flat_file address entry bytes) ≡ address
  unfolding u32_at flat_file
  address_at = little_number-reads_back 4 address (little_bytes 4 entry ++ little_bytes 4 (length bytes) ++ bytes) (omega arith)

  entry_at : u32_at 8 (flat_file address entry bytes) ≡ entry
  unfolding u32_at flat_file
  entry_at = little_number-reads_back 4 entry (little_bytes 4 (length bytes) ++ bytes) (omega arith)

  length_at : u32_at 12 (flat_file address entry bytes) ≡ length bytes
  unfolding u32_at flat_file
  length_at = little_number-reads_back 4 (length bytes) bytes (omega arith)

  header_is : flat_header (flat_file address entry bytes) ≡ head
  unfolding flat_header head
  header_is = cc (address_at, entry_at, length_at)

  length_is : length (flat_file address entry bytes) ≡ 16 + length bytes
  unfolding flat_file
  length_is = omega arith

  named : is_flat (flat_file address entry bytes) ≡ true
  unfolding flat_file
  named = refl

  layout_is : layout_of (flat_file address entry bytes) ≡ flat_layout head
  unfolding layout_of
  layout_is =
      let file = flat_file address entry bytes in
      ap (λ b. cond b (flat_layout (flat_header file)) (cond (is_packed file) (packed_layout file (packed_header file)) (elf_layout file (elf_header file)))) named ∙ ap flat_layout header_is

  module _ (base memory : ℕ) (fits : Fits base memory (one_piece address entry bytes)) where
    inside : IsInMemory base memory (record { address = address; bytes = bytes; size = length bytes })
    inside = All-head (IsInMemory base memory) (record { address = address; bytes = bytes; size = length bytes }) [] fits.segments

    no_check_fails : first_fault (flat_checks base memory (flat_file address entry bytes)) ≡ None
    unfolding head
    no_check_fails =
        let file = flat_file address entry bytes in
        let have = length file in
        let n = length bytes in
        let long = length_is in
        let i = inside in
        let w = fits.entry in
        let first : nat_le 16 have ≡ true = grind (arith, nat_tests) in
        let second : nat_le (16 + n) have ≡ true = grind (arith, nat_tests) in
        let range : (eqb n 0 || is_in_memory base memory address n) ≡ true = grind (arith, nat_tests, i.low, i.high) in
        let word : is_word_of base memory entry ≡ true = grind (arith, nat_tests, w.aligned, w.low, w.high) in
        ap (λ h. first_fault (checks_under base memory have h)) header_is
        ∙ all_hold (nat_le 16 have) (nat_le (16 + n) have) (eqb n 0 || is_in_memory base memory address n) (is_word_of base memory entry) (Short have 16) (Short have (16 + n)) (Outside 0) (Entry entry) first second range word

    no_fault : fault_of base memory (flat_file address entry bytes) ≡ None
    unfolding fault_of
    no_fault =
        let file = flat_file address entry bytes in
        let long = length_is in
        let elf = cond (is_elf file) (first_fault (elf_checks base memory file)) (Some Magic) in
        let packed = first_fault (packed_checks base memory file) in
        let other = cond (is_packed file) packed elf in
        let flat = first_fault (flat_checks base memory file) in
        let enough : nat_lt (length file) 4 ≡ false = grind (arith, nat_tests) in
        ap (λ b. cond b (Some (Short (length file) 4)) (cond (is_flat file) flat other)) enough ∙ ap (λ b. cond b flat other) named ∙ no_check_fails

    image_is : image_in (flat_file address entry bytes) (flat_layout head) ≡ one_piece address entry bytes
    unfolding head flat_file
    image_is =
        let some : eqb (length bytes) 0 ≡ false = let i = inside.size in grind (arith, nat_tests) in
        ap (λ b. image_in (flat_file address entry bytes) (record { entry = entry; loads = cond b [] (record { index = 0; offset = 16; address = address; file_size = length bytes; memory_size = length bytes } ∷ []) })) some
        ∙ ap (λ xs. let image : Image = record { entry = entry; segments = record { address = address; bytes = xs; size = length bytes } ∷ [] } in image) (take-length bytes)

    pub read_again : image_of base memory (flat_file address entry bytes) ≡ Ok (one_piece address entry bytes)
    unfolding image_of
    read_again =
        let file = flat_file address entry bytes in
        ap (λ fault. unless_fault fault (image_in file (layout_of file))) no_fault ∙ ap (λ layout. Ok (image_in file layout)) layout_is ∙ ap Ok image_is
