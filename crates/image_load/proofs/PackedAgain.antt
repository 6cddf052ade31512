-- An SLK2 file is read as the image that it was made of.
use Rattle.std.proofs.Common.{◌≡◌, ℕ, ◌+◌, ◌*◌, ◌^◌, ◌<◌, ◌≤◌, suc, Bool, true, false, cond, List, [], ◌∷◌, ◌++◌, Some, None, Ok, refl, sym, ap, ◌∙◌, arith, length, take, drop, map, filter, nat_le, nat_lt, inl, inr}
use Rattle.std.proofs.Math.Seq.{take-append_seam, drop-append_seam}
use Rattle.std.specs.List.{All, AllPairs, AllByRecursion, flat_map}
use Rattle.std.proofs.lemmas.Bool.Decides.{nat_tests}
use Rattle.std.proofs.lemmas.List.{drop-drop, length-append, drop_at}
use Rattle.std.proofs.lemmas.List.Elements.{recursion_from_All}
use Rattle.byteorder.specs.Endian.{little_bytes}
use Rattle.byteorder.specs.Numbers.{little_number-reads_back}
use Rattle.slack_base.specs.declared.images.Segment.{Segment}
use Rattle.slack_base.specs.declared.images.Image.{Image}
use Rattle.slack_base.specs.declared.faults.ImageFault.{ImageFault}
use Rattle.slack_base.specs.declared.faults.ImageFault.TheVariants.{Short, Magic, Outside, Entry, Overlap, Segment as Wrong}
use Rattle.slack_base.specs.Images.{IsInMemory, IsApart, Fits}
use Rattle.slack_base.specs.Checks.{first_fault, unless_fault}
use Rattle.image_load.specs.declared.packed.PackedHeader.{PackedHeader}
use Rattle.image_load.specs.declared.layouts.Load.{Load}
use Rattle.image_load.specs.Fields.{u32_at}
use Rattle.image_load.specs.Checks.{Check, is_in_memory, is_word_of}
use Rattle.image_load.specs.LoadChecks.{are_apart, overlap_check}
use Rattle.image_load.specs.Elf.{is_elf, elf_header, elf_checks, elf_layout}
use Rattle.image_load.specs.Flat.{is_flat, flat_header, flat_checks, flat_layout}
use Rattle.image_load.specs.Packed.{is_packed, packed_header, packed_end, packed_piece, packed_pieces, pieces_under, takes_memory, head_checks, piece_checks, pieces_checks, packed_checks, packed_layout, segment_header, packed_file}
use Rattle.image_load.specs.Layouts.{segment_of, image_in}
use Rattle.image_load.specs.Reading.{fault_of, layout_of, image_of}
use Rattle.image_load.specs.Writing.{HasWords}
use Rattle.image_load.proofs.Accepted.{passed, AreApart}

abbrev bytes_of : Segment → List ℕ
bytes_of s = s.bytes

-- the piece of a segment
abbrev piece_of : (index offset : ℕ) → Segment → Load
piece_of index offset s = record { index = index; offset = offset; address = s.address; file_size = length s.bytes; memory_size = s.size }

-- the pieces of segments, numbered from a number on, with their bytes one after another from an offset on
abbrev pieces_of : (index offset : ℕ) → List Segment → List Load
pieces_of index offset [] = []
pieces_of index offset (s ∷ ss) = piece_of index offset s ∷ pieces_of (index + 1) (offset + length s.bytes) ss

length-headers : (ss : List Segment) → length (flat_map segment_header ss) ≡ 12 * length ss
unfolding segment_header
length-headers [] = refl
length-headers (s ∷ ss) = omega (arith, length-headers ss)

-- the headers are read as the pieces
headers_read : (index offset : ℕ) (ss : List Segment) (tail : List ℕ) → AllByRecursion HasWords ss → packed_pieces (length ss) index offset (flat_map segment_header ss ++ tail) ≡ pieces_of index offset ss
unfolding packed_pieces packed_piece segment_header u32_at
headers_read index offset [] tail h = refl
headers_read index offset (s ∷ ss) tail h =
    let more = flat_map segment_header ss ++ tail in
    let file = (segment_header s ++ flat_map segment_header ss) ++ tail in
    let w = h.0 in
    let address : u32_at 0 file ≡ s.address = little_number-reads_back 4 s.address (little_bytes 4 (length s.bytes) ++ little_bytes 4 s.size ++ more) (omega (arith, w.address)) in
    let given : u32_at 4 file ≡ length s.bytes = little_number-reads_back 4 (length s.bytes) (little_bytes 4 s.size ++ more) (omega (arith, w.given)) in
    let size : u32_at 8 file ≡ s.size = little_number-reads_back 4 s.size more (omega (arith, w.size)) in
    let piece : packed_piece index offset file ≡ piece_of index offset s = cc (address, given, size) in
    ap (λ (p : Load). p ∷ packed_pieces (length ss) (index + 1) (offset + p.file_size) more) piece
    ∙ ap (λ ps. piece_of index offset s ∷ ps) (headers_read (index + 1) (offset + length s.bytes) ss tail h.1)

-- the bytes of the pieces are those of the segments
segments_read : (file : List ℕ) (index offset : ℕ) (ss : List Segment) → drop offset file ≡ flat_map bytes_of ss → map (segment_of file) (pieces_of index offset ss) ≡ ss
segments_read file index offset [] h = refl
segments_read file index offset (s ∷ ss) h =
    let rest = flat_map bytes_of ss in
    let n = length s.bytes in
    let own : take n (drop offset file) ≡ s.bytes = ap (λ xs. take n xs) h ∙ take-append_seam s.bytes rest in
    let behind : drop (offset + n) file ≡ rest = sym (drop-drop n offset file) ∙ ap (λ xs. drop n xs) h ∙ drop-append_seam s.bytes rest in
    ap (λ (bs : List ℕ). let own : Segment = record { address = s.address; bytes = bs; size = s.size } in own ∷ map (segment_of file) (pieces_of (index + 1) (offset + n) ss)) own
    ∙ ap (λ xs. s ∷ xs) (segments_read file (index + 1) (offset + n) ss behind)

-- each takes memory
all_kept : (base memory index offset : ℕ) (ss : List Segment) → AllByRecursion (IsInMemory base memory) ss → filter takes_memory (pieces_of index offset ss) ≡ pieces_of index offset ss
all_kept base memory index offset [] h = refl
all_kept base memory index offset (s ∷ ss) h =
    let rest = pieces_of (index + 1) (offset + length s.bytes) ss in
    let piece = piece_of index offset s in
    let i = h.0 in
    let some : nat_lt 0 s.size ≡ true = grind (arith, nat_tests, i.size) in
    ap (λ b. cond b (piece ∷ filter takes_memory rest) (filter takes_memory rest)) some
    ∙ ap (λ ps. piece ∷ ps) (all_kept base memory (index + 1) (offset + length s.bytes) ss h.1)

-- the first of some segments that are apart, and the others
pairs_head : (s : Segment) (ss : List Segment) → AllPairs IsApart (s ∷ ss) → All (IsApart s) ss
pairs_head s ss h = λ k d within. h 0 (suc k) d (omega arith) (omega arith)

pairs_tail : (s : Segment) (ss : List Segment) → AllPairs IsApart (s ∷ ss) → AllPairs IsApart ss
pairs_tail s ss h = λ i j d before within. h (suc i) (suc j) d (omega arith) (omega arith)

apart_test : (a b : Load) → AreApart a b → are_apart a b ≡ true
apart_test a b (inl low) = grind (arith, nat_tests)
apart_test a b (inr high) = grind (arith, nat_tests)

none_overlaps : (piece : Load) (earlier : List Load) → AllByRecursion (λ e. AreApart e piece) earlier → first_fault (map (overlap_check piece) earlier) ≡ None
none_overlaps piece [] h = refl
none_overlaps piece (other ∷ earlier) h =
    ap (λ b. cond b (first_fault (map (overlap_check piece) earlier)) (Some (Overlap other.index piece.index))) (apart_test other piece h.0)
    ∙ none_overlaps piece earlier h.1

-- the segments are apart from the pieces before them
abbrev AreBehind : List Load → List Segment → Type 0
AreBehind earlier ss = AllByRecursion (λ (s : Segment). AllByRecursion (λ e. IsApart (segment_of [] e) s) earlier) ss

one_behind : (earlier : List Load) (piece : Load) (s : Segment) → AllByRecursion (λ e. IsApart (segment_of [] e) s) earlier → IsApart (segment_of [] piece) s → AllByRecursion (λ e. IsApart (segment_of [] e) s) (earlier ++ piece ∷ [])
one_behind [] piece s h one = (one, tt)
one_behind (e ∷ earlier) piece s h one = (h.0, one_behind earlier piece s h.1 one)

all_behind : (earlier : List Load) (piece : Load) (ss : List Segment) → AreBehind earlier ss → AllByRecursion (λ s. IsApart (segment_of [] piece) s) ss → AreBehind (earlier ++ piece ∷ []) ss
all_behind earlier piece [] h one = tt
all_behind earlier piece (s ∷ ss) h one = (one_behind earlier piece s h.0 one.0, all_behind earlier piece ss h.1 one.1)

all_hold : (a b c : Bool) (f g h : ImageFault) (rest : List Check) → a ≡ true → b ≡ true → c ≡ true → first_fault rest ≡ None → first_fault ((a, f) ∷ (b, g) ∷ (c, h) ∷ rest) ≡ None
all_hold a b c f g h rest ha hb hc hr = rw (ha, hb, hc) hr

module _ (base memory have : ℕ) where
  one_passes : (earlier : List Load) (index offset : ℕ) (s : Segment) → IsInMemory base memory s → offset + length s.bytes ≤ have → AllByRecursion (λ e. IsApart (segment_of [] e) s) earlier → first_fault (piece_checks base memory have earlier (piece_of index offset s)) ≡ None
  unfolding piece_checks
  one_passes earlier index offset s i long behind =
      let piece = piece_of index offset s in
      let n = length s.bytes in
      let outside : Check = (is_in_memory base memory s.address s.size, Outside index) in
      let overlaps = map (overlap_check piece) earlier in
      let some : nat_lt 0 s.size ≡ true = grind (arith, nat_tests, i.size) in
      let first : nat_le n s.size ≡ true = grind (arith, nat_tests, i.bytes) in
      let second : nat_le (offset + n) have ≡ true = grind (arith, nat_tests) in
      let third : is_in_memory base memory s.address s.size ≡ true = grind (arith, nat_tests, i.low, i.high) in
      ap (λ b. first_fault ((nat_le n s.size, Wrong index) ∷ (nat_le (offset + n) have, Short have (offset + n)) ∷ cond b (outside ∷ overlaps) [])) some
      ∙ all_hold (nat_le n s.size) (nat_le (offset + n) have) (is_in_memory base memory s.address s.size) (Wrong index) (Short have (offset + n)) (Outside index) overlaps first second third (none_overlaps piece earlier behind)

  pieces_pass : (earlier : List Load) (index offset : ℕ) (ss : List Segment) → AllByRecursion (IsInMemory base memory) ss → AllPairs IsApart ss → AreBehind earlier ss → offset + length (flat_map bytes_of ss) ≤ have
      → first_fault (pieces_checks base memory have earlier (pieces_of index offset ss)) ≡ None
  unfolding pieces_checks
  pieces_pass earlier index offset [] inside apart behind long = refl
  pieces_pass earlier index offset (s ∷ ss) inside apart behind long =
      let piece = piece_of index offset s in
      let n = length s.bytes in
      let i = inside.0 in
      let rest = pieces_of (index + 1) (offset + n) ss in
      let some : nat_lt 0 s.size ≡ true = grind (arith, nat_tests, i.size) in
      let whole = length-append s.bytes (flat_map bytes_of ss) in
      let one = one_passes earlier index offset s i (omega (arith, whole)) behind.0 in
      let others = recursion_from_All (IsApart s) ss (pairs_head s ss apart) in
      passed (piece_checks base memory have earlier piece) (pieces_checks base memory have (earlier ++ filter takes_memory (piece ∷ [])) rest) one
      ∙ ap (λ b. first_fault (pieces_checks base memory have (earlier ++ cond b (piece ∷ []) []) rest)) some
      ∙ pieces_pass (earlier ++ piece ∷ []) (index + 1) (offset + n) ss inside.1 (pairs_tail s ss apart) (all_behind earlier piece ss behind.1 others) (omega (arith, whole))

-- nothing stands before the first
none_before : (ss : List Segment) → AreBehind [] ss
none_before [] = tt
none_before (s ∷ ss) = (tt, none_before ss)

module _ (image : Image) (entry_fits : image.entry < 2 ^ 32) (few : length image.segments ≤ 64) (words : All HasWords image.segments) where
  -- the numbers at the head of the file
  head : PackedHeader
  head = record { entry = image.entry; count = length image.segments }

  entry_at : u32_at 4 (packed_file image) ≡ image.entry
  unfolding u32_at packed_file
  entry_at = little_number-reads_back 4 image.entry (little_bytes 4 (length image.segments) ++ flat_map segment_header image.segments ++ flat_map bytes_of image.segments) (omega arith)

  count_at : u32_at 8 (packed_file image) ≡ length image.segments
  unfolding u32_at packed_file
  count_at = little_number-reads_back 4 (length image.segments) (flat_map segment_header image.segments ++ flat_map bytes_of image.segments) (omega arith)

  header_is : packed_header (packed_file image) ≡ head
  unfolding packed_header head
  header_is = cc (entry_at, count_at)

  length_is : length (packed_file image) ≡ 12 + 12 * length image.segments + length (flat_map bytes_of image.segments)
  unfolding packed_file
  length_is = omega (arith, length-headers image.segments, length-append (flat_map segment_header image.segments) (flat_map bytes_of image.segments))

  headers_at : drop 12 (packed_file image) ≡ flat_map segment_header image.segments ++ flat_map bytes_of image.segments
  unfolding packed_file
  headers_at = refl

  bytes_at : drop (12 + 12 * length image.segments) (packed_file image) ≡ flat_map bytes_of image.segments
  bytes_at =
      sym (drop-drop (12 * length image.segments) 12 (packed_file image)) ∙ ap (λ xs. drop (12 * length image.segments) xs) headers_at
      ∙ drop_at (flat_map segment_header image.segments) (flat_map bytes_of image.segments) (12 * length image.segments) (length-headers image.segments)

  pieces_are : pieces_under (packed_file image) (packed_header (packed_file image)) ≡ pieces_of 0 (12 + 12 * length image.segments) image.segments
  unfolding head
  pieces_are =
      let start = 12 + 12 * length image.segments in
      ap (λ h. pieces_under (packed_file image) h) header_is
      ∙ ap (λ xs. packed_pieces (length image.segments) 0 start xs) headers_at
      ∙ headers_read 0 start image.segments (flat_map bytes_of image.segments) (recursion_from_All HasWords image.segments words)

  named : is_packed (packed_file image) ≡ true
  unfolding packed_file
  named = refl

  not_flat : is_flat (packed_file image) ≡ false
  unfolding packed_file
  not_flat = refl

  layout_is : layout_of (packed_file image) ≡ packed_layout (packed_file image) (packed_header (packed_file image))
  unfolding layout_of
  layout_is =
      let f = packed_file image in
      let packed = packed_layout f (packed_header f) in
      let elf = elf_layout f (elf_header f) in
      ap (λ b. cond b (flat_layout (flat_header f)) (cond (is_packed f) packed elf)) not_flat ∙ ap (λ b. cond b packed elf) named

  head_passes : first_fault (head_checks (packed_file image)) ≡ None
  unfolding head_checks head
  head_passes =
      let have = length (packed_file image) in
      let n = length image.segments in
      let long = length_is in
      let first : nat_le 12 have ≡ true = grind (arith, nat_tests) in
      let second : nat_le n 64 ≡ true = grind (arith, nat_tests) in
      let third : nat_le (12 + 12 * n) have ≡ true = grind (arith, nat_tests) in
      ap (λ (h : PackedHeader). first_fault ((nat_le 12 have, Short have 12) ∷ (nat_le h.count 64, Wrong 64) ∷ (nat_le (packed_end h) have, Short have (packed_end h)) ∷ [])) header_is
      ∙ all_hold (nat_le 12 have) (nat_le n 64) (nat_le (12 + 12 * n) have) (Short have 12) (Wrong 64) (Short have (12 + 12 * n)) [] first second third refl

  module _ (base memory : ℕ) (fits : Fits base memory image) where
    inside : AllByRecursion (IsInMemory base memory) image.segments
    inside = recursion_from_All (IsInMemory base memory) image.segments fits.segments

    all_pieces_pass : first_fault (pieces_checks base memory (length (packed_file image)) [] (pieces_under (packed_file image) (packed_header (packed_file image)))) ≡ None
    all_pieces_pass =
        let have = length (packed_file image) in
        ap (λ ps. first_fault (pieces_checks base memory have [] ps)) pieces_are
        ∙ pieces_pass base memory have [] 0 (12 + 12 * length image.segments) image.segments (inside) fits.apart (none_before image.segments) (omega (arith, length_is))

    no_check_fails : first_fault (packed_checks base memory (packed_file image)) ≡ None
    unfolding packed_checks head
    no_check_fails =
        let f = packed_file image in
        let w = fits.entry in
        let word : is_word_of base memory image.entry ≡ true = grind (arith, nat_tests, w.aligned, w.low, w.high) in
        let pieces = pieces_checks base memory (length f) [] (pieces_under f (packed_header f)) in
        let entry : Check = (is_word_of base memory (packed_header f).entry, Entry (packed_header f).entry) in
        let first : first_fault (head_checks f ++ pieces) ≡ None = passed (head_checks f) pieces head_passes ∙ all_pieces_pass in
        let last : first_fault (entry ∷ []) ≡ None = ap (λ (h : PackedHeader). first_fault ((is_word_of base memory h.entry, Entry h.entry) ∷ [])) header_is ∙ ap (λ b. cond b None (Some (Entry image.entry))) word in
        passed (head_checks f ++ pieces) (entry ∷ []) first ∙ last

    no_fault : fault_of base memory (packed_file image) ≡ None
    unfolding fault_of
    no_fault =
        let f = packed_file image in
        let long = length_is in
        let elf = cond (is_elf f) (first_fault (elf_checks base memory f)) (Some Magic) in
        let packed = first_fault (packed_checks base memory f) in
        let other = cond (is_packed f) packed elf in
        let flat = first_fault (flat_checks base memory f) in
        let enough : nat_lt (length f) 4 ≡ false = grind (arith, nat_tests) in
        ap (λ b. cond b (Some (Short (length f) 4)) (cond (is_flat f) flat other)) enough
        ∙ ap (λ b. cond b flat other) not_flat ∙ ap (λ b. cond b packed elf) named ∙ no_check_fails

    image_is : image_in (packed_file image) (packed_layout (packed_file image) (packed_header (packed_file image))) ≡ image
    unfolding head
    image_is =
        let f = packed_file image in
        let start = 12 + 12 * length image.segments in
        let loads = ap (λ ps. filter takes_memory ps) pieces_are ∙ all_kept base memory 0 start image.segments (inside) in
        ap (λ (h : PackedHeader). let i : Image = record { entry = h.entry; segments = map (segment_of f) (filter takes_memory (pieces_under f (packed_header f))) } in i) header_is
        ∙ ap (λ (ps : List Load). let i : Image = record { entry = image.entry; segments = map (segment_of f) ps } in i) loads
        ∙ ap (λ (ss : List Segment). let i : Image = record { entry = image.entry; segments = ss } in i) (segments_read f 0 start image.segments bytes_at)

    pub packed_again : image_of base memory (packed_file image) ≡ Ok image
    unfolding image_of
    packed_again =
        let f = packed_file image in
        ap (λ fault. unless_fault fault (image_in f (layout_of f))) no_fault ∙ ap (λ layout. Ok (image_in f layout)) layout_is ∙ ap Ok image_is
