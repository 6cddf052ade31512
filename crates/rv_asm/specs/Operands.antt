-- The forms of operands.
use Rattle.std.specs.Prelude.{ℕ, ℤ, pos, ◌*◌, ◌-ℤ◌, List, [], ◌∷◌, Option, Result, Ok, Err, codes, if◌then◌else◌}
use Rattle.std.specs.Option.{ok_or}
use Rattle.slack_base.specs.declared.faults.AsmKind.{AsmKind}
use Rattle.slack_base.specs.declared.faults.AsmKind.TheVariants.{Operand, Label}
use Rattle.rv_asm.specs.Bytes.{is_name, trim, parts_at, without_suffix}
use Rattle.rv_asm.specs.Kinds.{◌>>=◌}
use Rattle.rv_asm.specs.Numbers.{number_of}
use Rattle.rv_asm.specs.Registers.{register_of}

-- the place that each label names, counted in words from the start: none where it is not defined
abbrev pub Places : Type 0
Places = List ℕ → Option ℕ

-- two operands, divided by such a byte
unfoldable pub divided : ℕ → List ℕ → Result (List ℕ × List ℕ) AsmKind
divided byte text = do
  parts ← ok_or (parts_at byte text) Operand
  Ok (trim parts.0, trim parts.1)

-- the first of some operands, and the others
abbrev pub first_of : List ℕ → Result (List ℕ × List ℕ) AsmKind
first_of text = divided 44 text

-- no operand
unfoldable pub nothing : List ℕ → Result (Unit {0}) AsmKind
nothing [] = Ok tt
nothing (byte ∷ bytes) = Err Operand

-- `N(r)`: what stands before the bracket, and the register in it
unfoldable pub memory : List ℕ → Result (List ℕ × ℕ) AsmKind
memory text = do
  parts ← divided 40 text
  inside ← ok_or (without_suffix (codes ")") parts.1) Operand
  base ← register_of (trim inside)
  Ok (parts.0, base)

-- `(r)`: the register
unfoldable pub address : List ℕ → Result ℕ AsmKind
address text = do
  parts ← memory text
  _ ← nothing parts.0
  Ok parts.1

-- `N(r)`: the number, and the register
unfoldable pub displaced : List ℕ → Result (ℤ × ℕ) AsmKind
displaced text = do
  parts ← memory text
  number ← number_of parts.0
  Ok (number, parts.1)

-- how far a place is from another, in bytes: a word has four
abbrev pub distance : ℕ → ℕ → ℤ
distance place from = pos (4 * place) -ℤ pos (4 * from)

-- where a label is, from this instruction
unfoldable pub label_at : Places → ℕ → List ℕ → Result ℤ AsmKind
label_at places here name = do
  place ← ok_or (places name) Label
  Ok (distance place here)

-- the target of a jump or branch: a label, or a number
unfoldable pub target : Places → ℕ → List ℕ → Result ℤ AsmKind
target places here text = if is_name text then label_at places here text else number_of text

-- two registers
unfoldable pub two_registers : List ℕ → Result (ℕ × ℕ) AsmKind
two_registers text = do
  parts ← first_of text
  first ← register_of parts.0
  second ← register_of parts.1
  Ok (first, second)

-- three registers
unfoldable pub three_registers : List ℕ → Result (ℕ × ℕ × ℕ) AsmKind
three_registers text = do
  parts ← first_of text
  first ← register_of parts.0
  others ← two_registers parts.1
  Ok (first, others.0, others.1)

-- a register, and the text of the last operand
unfoldable pub register_and : List ℕ → Result (ℕ × List ℕ) AsmKind
register_and text = do
  parts ← first_of text
  first ← register_of parts.0
  Ok (first, parts.1)

-- two registers, and the text of the last operand
unfoldable pub two_registers_and : List ℕ → Result (ℕ × ℕ × List ℕ) AsmKind
two_registers_and text = do
  first ← register_and text
  second ← register_and first.1
  Ok (first.0, second.0, second.1)
