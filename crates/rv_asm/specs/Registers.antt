-- The names of the registers: `x` with a number, and those of the calling convention of the RISC-V Unprivileged ISA
-- (20191213, chapter 25).
use Rattle.std.specs.Prelude.{ℕ, List, [], ◌∷◌, ◌++◌, Result, codes, map}
use Rattle.std.specs.List.{range_with_len}
use Rattle.std.specs.Option.{ok_or}
use Rattle.slack_base.specs.declared.faults.AsmKind.{AsmKind}
use Rattle.slack_base.specs.declared.faults.AsmKind.TheVariants.{Operand}
use Rattle.rv_decode.specs.Texts.{register}
use Rattle.rv_asm.specs.Tables.{entry_in}

-- `x0` to `x31`
abbrev pub numbered : List (List ℕ × ℕ)
numbered = map {B = List ℕ × ℕ} (λ r. (register r, r)) (range_with_len 0 32)

-- the names of the calling convention
abbrev pub conventional : List (List ℕ × ℕ)
conventional =
    (codes "zero", 0) ∷ (codes "ra", 1) ∷ (codes "sp", 2) ∷ (codes "gp", 3) ∷ (codes "tp", 4)
    ∷ (codes "t0", 5) ∷ (codes "t1", 6) ∷ (codes "t2", 7)
    ∷ (codes "s0", 8) ∷ (codes "fp", 8) ∷ (codes "s1", 9)
    ∷ (codes "a0", 10) ∷ (codes "a1", 11) ∷ (codes "a2", 12) ∷ (codes "a3", 13)
    ∷ (codes "a4", 14) ∷ (codes "a5", 15) ∷ (codes "a6", 16) ∷ (codes "a7", 17)
    ∷ (codes "s2", 18) ∷ (codes "s3", 19) ∷ (codes "s4", 20) ∷ (codes "s5", 21) ∷ (codes "s6", 22)
    ∷ (codes "s7", 23) ∷ (codes "s8", 24) ∷ (codes "s9", 25) ∷ (codes "s10", 26) ∷ (codes "s11", 27)
    ∷ (codes "t3", 28) ∷ (codes "t4", 29) ∷ (codes "t5", 30) ∷ (codes "t6", 31) ∷ []

-- each name, with its number
unfoldable pub registers : List (List ℕ × ℕ)
registers = numbered ++ conventional

-- the register of this name
unfoldable pub register_of : List ℕ → Result ℕ AsmKind
register_of text = ok_or (entry_in registers text) Operand
