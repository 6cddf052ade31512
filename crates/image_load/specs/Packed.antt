-- The format SLK2: up to 64 pieces of memory, each with the bytes that it begins with.
--
--    offset  size
--         0     4  the letters SLK2
--         4     4  the entry
--         8     4  how many headers there are
--        12        the headers, 12 bytes each, and behind them the bytes of the pieces, one after another; bytes after
--                  them are ignored
--
-- A header, by offsets from its beginning:
--
--         0     4  the address of the piece
--         4     4  its length: how many bytes the file gives
--         8     4  its size: how many bytes of memory it takes
use Rattle.std.specs.Prelude.{ℕ, zero, suc, ◌+◌, ◌*◌, Bool, List, [], ◌∷◌, ◌++◌, length, map, filter, drop, nat_eq, nat_le, nat_lt, codes, if◌then◌else◌}
use Rattle.std.specs.List.{starts_with, flat_map}
use Rattle.byteorder.specs.Endian.{little_bytes}
use Rattle.slack_base.specs.declared.images.Segment.{Segment as Piece}
use Rattle.slack_base.specs.declared.images.Image.{Image}
use Rattle.slack_base.specs.declared.faults.ImageFault.TheVariants.{Short, Segment, Outside, Entry}
use Rattle.image_load.specs.declared.packed.PackedHeader.{PackedHeader}
use Rattle.image_load.specs.declared.layouts.Load.{Load}
use Rattle.image_load.specs.declared.layouts.Layout.{Layout}
use Rattle.image_load.specs.Fields.{u32_at}
use Rattle.image_load.specs.Checks.{Check, is_in_memory, is_word_of}
use Rattle.image_load.specs.LoadChecks.{overlap_check}

abbrev pub is_packed : List ℕ → Bool
is_packed bytes = starts_with nat_eq bytes (codes "SLK2")

unfoldable pub packed_header : List ℕ → PackedHeader
packed_header bytes = record { entry = u32_at 4 bytes; count = u32_at 8 bytes }

-- where the headers end
abbrev pub packed_end : PackedHeader → ℕ
packed_end header = 12 + 12 * header.count

-- the piece of this number, whose header begins the list, and whose bytes begin at an offset in the file
unfoldable pub packed_piece : (index offset : ℕ) → List ℕ → Load
packed_piece index offset bytes = record {
  index = index;
  offset = offset;
  address = u32_at 0 bytes;
  file_size = u32_at 4 bytes;
  memory_size = u32_at 8 bytes;
}

-- the pieces of so many headers, which begin the list, numbered from a number on. The bytes of the first begin at an
-- offset in the file, and those of each other one behind those of the one before it.
unfoldable pub packed_pieces : (count index offset : ℕ) → List ℕ → List Load
packed_pieces zero index offset bytes = []
packed_pieces (suc count) index offset bytes =
    packed_piece index offset bytes
    ∷ packed_pieces count (index + 1) (offset + (packed_piece index offset bytes).file_size) (drop 12 bytes)

-- the pieces of a file with this header
abbrev pub pieces_under : List ℕ → PackedHeader → List Load
pieces_under bytes header = packed_pieces header.count 0 (packed_end header) (drop 12 bytes)

abbrev pub takes_memory : Load → Bool
takes_memory piece = nat_lt 0 piece.memory_size

unfoldable pub head_checks : List ℕ → List Check
head_checks bytes =
    let have = length bytes in
    let header = packed_header bytes in
    (nat_le 12 have, Short have 12)
    ∷ (nat_le header.count 64, Segment 64)
    ∷ (nat_le (packed_end header) have, Short have (packed_end header))
    ∷ []

-- the checks of a piece, in a file of so many bytes, after the earlier ones that take memory: it has no more bytes
-- than it takes, they end in the file, and if it takes memory, its range is memory and apart from those before it
unfoldable pub piece_checks : (base memory have : ℕ) (earlier : List Load) → Load → List Check
piece_checks base memory have earlier piece =
    (nat_le piece.file_size piece.memory_size, Segment piece.index)
    ∷ (nat_le (piece.offset + piece.file_size) have, Short have (piece.offset + piece.file_size))
    ∷ (if takes_memory piece
    then (is_in_memory base memory piece.address piece.memory_size, Outside piece.index) ∷ map (overlap_check piece) earlier
    else [])

-- the checks of all pieces, each after those before it
unfoldable pub pieces_checks : (base memory have : ℕ) (earlier pieces : List Load) → List Check
pieces_checks base memory have earlier [] = []
pieces_checks base memory have earlier (piece ∷ pieces) =
    piece_checks base memory have earlier piece
    ++ pieces_checks base memory have (earlier ++ filter takes_memory (piece ∷ [])) pieces

unfoldable pub packed_checks : (base memory : ℕ) → List ℕ → List Check
packed_checks base memory bytes =
    let header = packed_header bytes in
    head_checks bytes
    ++ pieces_checks base memory (length bytes) [] (pieces_under bytes header)
    ++ (is_word_of base memory header.entry, Entry header.entry) ∷ []

-- the pieces that take memory
abbrev pub packed_layout : List ℕ → PackedHeader → Layout
packed_layout bytes header = record { entry = header.entry; loads = filter takes_memory (pieces_under bytes header) }

-- the header of a segment
unfoldable pub segment_header : Piece → List ℕ
segment_header s = little_bytes 4 s.address ++ little_bytes 4 (length s.bytes) ++ little_bytes 4 s.size

-- the file of an image
unfoldable pub packed_file : Image → List ℕ
packed_file image =
    codes "SLK2" ++ little_bytes 4 image.entry ++ little_bytes 4 (length image.segments)
    ++ flat_map segment_header image.segments
    ++ flat_map (λ (s : Piece). s.bytes) image.segments
