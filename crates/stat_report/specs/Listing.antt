-- The listing of an image: its words with their addresses and their instructions.
use Rattle.std.specs.Prelude.{◌≡◌, ℕ, ◌+◌, ◌%◌, ◌==◌, ◌&&◌, List, ◌++◌, [], Option, Some, None, codes, drop, flat_map, length, nat_le, if◌then◌else◌, IsPermutation}
use Rattle.std.specs.List.{range_with_len}
use Rattle.std.specs.List.Sorted.{IsNonDecreasingBy}
use Rattle.byteorder.specs.Endian.{little_number}
use Rattle.slack_base.specs.declared.images.Image.{Image}
use Rattle.slack_base.specs.declared.images.Segment.{Segment}
use Rattle.slack_base.specs.declared.instructions.Instr.{Instr}
use Rattle.rv_decode.specs.Decoding.{instr_of}
use Rattle.rv_decode.specs.Texts.{text}
use Rattle.plain_text.specs.Pieces.{hex_field}

-- the text of an instruction, or `.word` where there is none
abbrev pub text_or_word : Option Instr → List ℕ
text_or_word (Some instr) = text instr
text_or_word None = codes ".word"

unfoldable pub word_text : ℕ → List ℕ
word_text word = text_or_word (instr_of word)

-- the line of an address and its word
unfoldable pub line : ℕ → ℕ → List ℕ
line address word = hex_field address ++ (hex_field word ++ (word_text word ++ codes "\n"))

-- the line at a place of a segment's bytes: at an address that is a multiple of 4, with four bytes in the segment's
unfoldable pub line_at : Segment → ℕ → List ℕ
line_at s place =
    if ((s.address + place) % 4 == 0) && nat_le (place + 4) (length s.bytes) then line (s.address + place) (little_number 4 (drop place s.bytes))
    else []

-- the lines of a segment, from place to place
unfoldable pub segment_text : Segment → List ℕ
segment_text s = flat_map (line_at s) (range_with_len 0 (length s.bytes))

-- these are the segments, the lowest address first
pub record IsInOrder (segments order : List Segment) : Type 0 where
  pub permuted : IsPermutation segments order
  pub sorted : IsNonDecreasingBy (λ s. s.address) order

-- the text is the listing of the image
pub record IsListing (image : Image) (listed : List ℕ) : Type 0 where
  pub order : List Segment
  pub in_order : IsInOrder image.segments order
  pub whole : listed ≡ flat_map segment_text order
