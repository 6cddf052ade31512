-- Generated programs.
use Rattle.std.specs.Prelude.{◌≡◌, ℕ, pos, ◌+◌, ◌^◌, ◌<◌, List, [], ◌∷◌, ◌++◌, map}
use Rattle.std.specs.List.{AllZip}
use Rattle.slack_base.specs.Images.{one_piece}
use Rattle.slack_base.specs.LittleEndian.{bytes_of_words}
use Rattle.slack_base.specs.declared.images.Image.{Image}
use Rattle.slack_base.specs.declared.instructions.Instr.{Instr}
use Rattle.slack_base.specs.declared.instructions.Instr.TheVariants.{Lui, Imm, Ecall}
use Rattle.slack_base.specs.declared.instructions.ImmOp.TheVariants.{Addi}
use Rattle.rv_decode.specs.Encodes.{Encodes}
use Rattle.rv_decode.specs.Fields.{upper_of}
use Rattle.workload_gen.specs.Choices.{instruction}
use Rattle.workload_gen.specs.Draws.{draws}

-- x8 is the address 65536 bytes past base, and x9 that 128 bytes further
abbrev pub head : ℕ → List Instr
head base = Lui 8 (upper_of (base + 65536)) ∷ Imm Addi 9 8 (pos 128) ∷ []

-- the exit service, with the code 0
abbrev pub tail : List Instr
tail = Imm Addi 17 0 (pos 93) ∷ Imm Addi 10 0 (pos 0) ∷ Ecall ∷ []

-- the program of a seed: the head, a thousand drawn instructions, the tail
unfoldable pub program : ℕ → ℕ → List Instr
program seed base = head base ++ (map instruction (draws seed 1000) ++ tail)

-- the word of 32 bits stands for the instruction
abbrev pub IsWordFor : ℕ → Instr → Type 0
IsWordFor word instr = (word < 2 ^ 32) × Encodes word instr

-- the bytes are the words of the instructions, one after another, each with its least byte first
pub record AreBytesOf (instrs : List Instr) (bytes : List ℕ) : Type 0 where
  pub words : List ℕ
  pub each : AllZip IsWordFor words instrs
  pub whole : bytes ≡ bytes_of_words words

-- the image is that of the program of a seed
pub record IsProgram (seed base : ℕ) (image : Image) : Type 0 where
  pub bytes : List ℕ
  pub words : AreBytesOf (program seed base) bytes
  pub whole : image ≡ one_piece base base bytes
