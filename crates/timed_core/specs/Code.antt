-- The instruction memory: what fetches read.
use Rattle.std.specs.Prelude.{ℕ, ◌≡◌, ◌+◌, ◌-◌, ◌*◌, ◌%◌, ◌^◌, ◌<◌, ◌≤◌, ◌==◌, ◌&&◌, Bool, List, Option, Some, None, IfSome, drop, length, nat_le, nat_lt, option_and_then, slice_index_or, if◌then◌else◌}
use Rattle.byteorder.specs.Endian.{little_number}
use Rattle.first_memory.specs.Memory.{bytes_from}
use Rattle.slack_base.specs.declared.images.Image.{Image}
use Rattle.slack_base.specs.declared.instructions.Instr.{Instr}
use Rattle.slack_base.specs.declared.configs.RawConfig.{RawConfig}
use Rattle.rv_decode.specs.Decoding.{instr_of}
use Rattle.rv_decode.specs.Ranges.{IsInRange}
use Rattle.timed_core.specs.declared.kept.Kept.{Kept}
use Rattle.timed_core.specs.declared.kept.Kept.TheVariants.{Nothing}
use Rattle.timed_core.specs.Kept.{instr_in}

-- the bytes of memory as they were loaded, from an address on
pub record CodeValue : Type 0 where
  pub base : ℕ
  pub bytes : List ℕ

-- the address is one of memory
abbrev pub is_in_memory : CodeValue → ℕ → Bool
is_in_memory code address = nat_le code.base address && nat_lt address (code.base + length code.bytes)

-- the little-endian word at an address: none outside memory, and none off a multiple of 4
unfoldable pub word_at : CodeValue → ℕ → Option ℕ
word_at code address =
    if is_in_memory code address && (address % 4 == 0) then Some (little_number 4 (drop (address - code.base) code.bytes)) else None

-- the instruction at an address: none where there is no word, and where the word stands for none
abbrev pub instr_at : CodeValue → ℕ → Option Instr
instr_at code address = option_and_then instr_of (word_at code address)

-- what is kept is the instructions of the first words of the bytes, in their order, each with its fields in their ranges
pub record AreDecoded (bytes : List ℕ) (kept : List Kept) : Type 0 where
  pub within : 4 * length kept ≤ length bytes
  pub each : (n : ℕ) → n < length kept → instr_in (slice_index_or kept n Nothing) ≡ instr_of (little_number 4 (drop (4 * n) bytes))
  pub ranges : (n : ℕ) → n < length kept → IfSome (instr_in (slice_index_or kept n Nothing)) IsInRange

-- the words of these bytes are kept, and memory has zeros behind them
pub record IsCode (base memory : ℕ) (bytes : List ℕ) (kept : List Kept) : Type 0 where
  pub base_aligned : base % 4 ≡ 0
  pub memory_aligned : memory % 4 ≡ 0
  pub room : base + memory ≤ 2 ^ 32
  pub within : length bytes ≤ memory
  pub whole : 4 * length kept ≡ length bytes
  pub decoded : AreDecoded bytes kept

-- the instruction memory of an image: so many bytes from base on
abbrev pub code_of : Image → RawConfig → CodeValue
code_of image config = record { base = config.base; bytes = bytes_from image.segments config.base config.memory }
