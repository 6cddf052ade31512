-- What a drawn word chooses.
use Rattle.std.specs.Prelude.{ℕ, pos, ◌*◌, ◌/◌, ◌%◌, false, List, [], ◌∷◌, slice_index, slice_index_or}
use Rattle.slack_base.specs.declared.instructions.Instr.{Instr}
use Rattle.slack_base.specs.declared.instructions.Instr.TheVariants.{Reg, Imm, Load, Store, Amo, Ecall}
use Rattle.slack_base.specs.declared.instructions.RegOp.TheVariants.{Add, Xor, Mul, Divu}
use Rattle.slack_base.specs.declared.instructions.ImmOp.TheVariants.{Addi}
use Rattle.slack_base.specs.declared.instructions.LoadOp.TheVariants.{Lw}
use Rattle.slack_base.specs.declared.instructions.StoreOp.TheVariants.{Sw}
use Rattle.slack_base.specs.declared.instructions.AmoOp.TheVariants.{Amoadd}
use Rattle.slack_base.specs.declared.steps.Step.{Step}
use Rattle.slack_base.specs.declared.steps.Step.TheVariants.{Tick, Serve, Take}

-- the registers t0, t1, t2, s2, t3, t4, t5 and t6
abbrev pub registers : List ℕ
registers = 5 ∷ 6 ∷ 7 ∷ 18 ∷ 28 ∷ 29 ∷ 30 ∷ 31 ∷ []

-- the register that the lowest three bits choose
abbrev pub register : ℕ → ℕ
register choice = slice_index registers (choice % 8)

-- the eight instructions, over registers d, a and b and a number k: x8 holds the address of 64 words of memory that
-- are loaded and stored, and x9 that of one of them
abbrev pub instructions : ℕ → ℕ → ℕ → ℕ → List Instr
instructions d a b k =
    Reg Add d a b
    ∷ Reg Xor d a b
    ∷ Imm Addi d a (pos k)
    ∷ Reg Mul d a b
    ∷ Load Lw d 8 (pos (4 * k))
    ∷ Store Sw 8 b (pos (4 * k))
    ∷ Amo Amoadd d 9 b false false
    ∷ Reg Divu d a b
    ∷ []

-- the instruction that a word chooses
unfoldable pub instruction : ℕ → Instr
instruction word =
    slice_index_or (instructions (register (word / 8)) (register (word / 64)) (register (word / 512)) (word / 4096 % 64)) (word % 8) Ecall

-- the three steps of a core
abbrev pub steps : ℕ → List Step
steps core = Tick core ∷ Serve core ∷ Take core ∷ []

-- the step that a word chooses, of so many cores
unfoldable pub step : ℕ → ℕ → Step
step cores word = slice_index_or (steps (word / 4 % cores)) (word % 3) (Tick 0)
