-- The format ELF32 of the System V ABI, as far as its program headers: executables for a 32-bit little-endian RISC-V
-- machine.
--
--    offset  size
--         0     4  the byte 127 and the letters ELF
--         4     1  class: 1 for 32 bits
--         5     1  data encoding: 1 for little-endian
--        16     2  e_type: 2 for an executable
--        18     2  e_machine: 243 for RISC-V
--        24     4  e_entry: the entry
--        28     4  e_phoff: where the program headers begin
--        42     2  e_phentsize: the size of a program header, 32
--        44     2  e_phnum: how many program headers there are
--
-- A program header, by offsets from its beginning:
--
--         0     4  p_type: 1 for a piece that is loaded
--         4     4  p_offset: where its bytes begin in the file
--         8     4  p_vaddr: its address
--        16     4  p_filesz: how many bytes the file gives
--        20     4  p_memsz: how many bytes of memory it takes
use Rattle.std.specs.Prelude.{ℕ, ◌+◌, ◌*◌, ◌==◌, ◌&&◌, ◌||◌, Bool, List, [], ◌∷◌, ◌++◌, length, map, filter, nat_eq, nat_le, nat_lt, codes, slice_index}
use Rattle.std.specs.List.{starts_with, range_with_len}
use Rattle.slack_base.specs.declared.faults.ImageFault.TheVariants.{Short, Machine, Segment, Entry}
use Rattle.image_load.specs.declared.elf.ElfHeader.{ElfHeader}
use Rattle.image_load.specs.declared.elf.ProgramHeader.{ProgramHeader}
use Rattle.image_load.specs.declared.layouts.Load.{Load}
use Rattle.image_load.specs.declared.layouts.Layout.{Layout}
use Rattle.image_load.specs.Fields.{u16_at, u32_at}
use Rattle.image_load.specs.Checks.{Check, is_word_of}
use Rattle.image_load.specs.LoadChecks.{load_checks}

abbrev pub is_elf : List ℕ → Bool
is_elf bytes = starts_with nat_eq bytes (127 ∷ codes "ELF")

unfoldable pub elf_header : List ℕ → ElfHeader
elf_header bytes = record {
  class = slice_index bytes 4;
  encoding = slice_index bytes 5;
  file_type = u16_at 16 bytes;
  machine = u16_at 18 bytes;
  entry = u32_at 24 bytes;
  headers_offset = u32_at 28 bytes;
  header_size = u16_at 42 bytes;
  header_count = u16_at 44 bytes;
}

-- the program header of this number, which begins at an offset
unfoldable pub program_header : List ℕ → (start index : ℕ) → ProgramHeader
program_header bytes start index = record {
  kind = u32_at start bytes;
  load = record {
    index = index;
    offset = u32_at (start + 4) bytes;
    address = u32_at (start + 8) bytes;
    file_size = u32_at (start + 16) bytes;
    memory_size = u32_at (start + 20) bytes;
  };
}

abbrev pub program_headers : List ℕ → ElfHeader → List ProgramHeader
program_headers bytes header =
    map (λ i. program_header bytes (header.headers_offset + 32 * i) i) (range_with_len 0 header.header_count)

-- the header is of a piece that is loaded and has bytes
abbrev pub is_load : ProgramHeader → Bool
is_load h = (h.kind == 1) && (nat_lt 0 h.load.memory_size || nat_lt 0 h.load.file_size)

abbrev pub loads_of : List ProgramHeader → List Load
loads_of headers = map (λ h. h.load) (filter is_load headers)

abbrev pub is_executable : ElfHeader → Bool
is_executable h = (h.class == 1) && (h.encoding == 1) && (h.file_type == 2) && (h.machine == 243)

-- where the program headers end
abbrev pub headers_end : ElfHeader → ℕ
headers_end header = header.headers_offset + 32 * header.header_count

unfoldable pub header_checks : List ℕ → List Check
header_checks bytes =
    let have = length bytes in
    let header = elf_header bytes in
    (nat_le 52 have, Short have 52)
    ∷ (is_executable header, Machine)
    ∷ ((header.header_count == 0) || (header.header_size == 32), Segment 0)
    ∷ ((header.header_count == 0) || nat_le (headers_end header) have, Short have (headers_end header))
    ∷ []

abbrev pub elf_layout : List ℕ → ElfHeader → Layout
elf_layout bytes header = record { entry = header.entry; loads = loads_of (program_headers bytes header) }

unfoldable pub elf_checks : (base memory : ℕ) → List ℕ → List Check
elf_checks base memory bytes =
    let header = elf_header bytes in
    header_checks bytes
    ++ load_checks base memory (length bytes) [] (loads_of (program_headers bytes header))
    ++ (is_word_of base memory header.entry, Entry header.entry) ∷ []
