-- The format SLK1: one piece of memory.
--
--    offset  size
--         0     4  the letters SLK1
--         4     4  the address of the piece
--         8     4  the entry
--        12     4  the length of the piece
--        16        its bytes; bytes after them are ignored
use Rattle.std.specs.Prelude.{ℕ, ◌+◌, ◌==◌, ◌||◌, Bool, List, [], ◌∷◌, ◌++◌, nat_le, length, codes, if◌then◌else◌}
use Rattle.std.specs.Prelude.{nat_eq}
use Rattle.std.specs.List.{starts_with}
use Rattle.byteorder.specs.Endian.{little_bytes}
use Rattle.slack_base.specs.declared.faults.ImageFault.TheVariants.{Short, Outside, Entry}
use Rattle.image_load.specs.declared.flat.FlatHeader.{FlatHeader}
use Rattle.image_load.specs.declared.layouts.Layout.{Layout}
use Rattle.image_load.specs.Fields.{u32_at}
use Rattle.image_load.specs.Checks.{Check, is_in_memory, is_word_of}

abbrev pub is_flat : List ℕ → Bool
is_flat bytes = starts_with nat_eq bytes (codes "SLK1")

unfoldable pub flat_header : List ℕ → FlatHeader
flat_header bytes = record { address = u32_at 4 bytes; entry = u32_at 8 bytes; length = u32_at 12 bytes }

abbrev pub flat_checks : (base memory : ℕ) → List ℕ → List Check
flat_checks base memory bytes =
    let have = length bytes in
    let header = flat_header bytes in
    (nat_le 16 have, Short have 16)
    ∷ (nat_le (16 + header.length) have, Short have (16 + header.length))
    ∷ ((header.length == 0) || is_in_memory base memory header.address header.length, Outside 0)
    ∷ (is_word_of base memory header.entry, Entry header.entry)
    ∷ []

-- one piece, or none where its length is 0
abbrev pub flat_layout : FlatHeader → Layout
flat_layout header = record {
  entry = header.entry;
  loads = if header.length == 0 then [] else record { index = 0; offset = 16; address = header.address; file_size = header.length; memory_size = header.length } ∷ [];
}

-- the file of one piece
unfoldable pub flat_file : (address entry : ℕ) → List ℕ → List ℕ
flat_file address entry bytes =
    codes "SLK1" ++ little_bytes 4 address ++ little_bytes 4 entry ++ little_bytes 4 (length bytes) ++ bytes
