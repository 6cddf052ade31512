-- The instruction that a mnemonic and its operands make.
use Rattle.std.specs.Prelude.{◌≡◌, ℕ, ℤ, pos, negsuc, List, Result, Ok, Err, codes, if◌then◌else◌}
use Rattle.std.specs.List.{before_first, after_first}
use Rattle.std.specs.Option.{ok_or}
use Rattle.std.specs.Str.{bytes_eq}
use Rattle.slack_base.specs.declared.faults.AsmKind.{AsmKind}
use Rattle.slack_base.specs.declared.faults.AsmKind.TheVariants.{Mnemonic, Range}
use Rattle.slack_base.specs.declared.instructions.Instr.{Instr}
use Rattle.slack_base.specs.declared.instructions.Instr.TheVariants.{Lui, Auipc, Jal, Jalr, Branch, Load, Store, Imm, Shift, Reg, Lr, Sc, Amo, Fence, Ecall, Ebreak}
use Rattle.slack_base.specs.declared.instructions.ImmOp.TheVariants.{Addi, Xori}
use Rattle.slack_base.specs.declared.instructions.RegOp.TheVariants.{Sub}
use Rattle.rv_decode.specs.Encodes.{Encodes}
use Rattle.rv_asm.specs.declared.operations.Operation.{Operation}
use Rattle.rv_asm.specs.declared.operations.Operation.TheVariants as op
use Rattle.rv_asm.specs.Bytes.{is_blank, trim_start}
use Rattle.rv_asm.specs.Kinds.{◌>>=◌}
use Rattle.rv_asm.specs.Mnemonics.{operation_of}
use Rattle.rv_asm.specs.Numbers.{number_of}
use Rattle.rv_asm.specs.Operands.{Places, nothing, address, displaced, target, two_registers, three_registers, register_and, two_registers_and}
use Rattle.rv_asm.specs.Ranges.{is_in_range, signed, unsigned, word_of}

-- a register and a number without a sign
unfoldable pub register_upper : List ℕ → Result (ℕ × ℕ) AsmKind
register_upper text = do
  first ← register_and text
  number ← number_of first.1
  upper ← unsigned number
  Ok (first.0, upper)

-- a register, and a number and a register in brackets
unfoldable pub register_displaced : List ℕ → Result (ℕ × ℕ × ℤ) AsmKind
register_displaced text = do
  first ← register_and text
  place ← displaced first.1
  offset ← signed place.0
  Ok (first.0, place.1, offset)

-- a register, and the target of a jump or branch
unfoldable pub register_target : Places → ℕ → List ℕ → Result (ℕ × ℤ) AsmKind
register_target places here text = do
  first ← register_and text
  distance ← target places here first.1
  offset ← signed distance
  Ok (first.0, offset)

unfoldable pub registers_target : Places → ℕ → List ℕ → Result (ℕ × ℕ × ℤ) AsmKind
registers_target places here text = do
  two ← two_registers_and text
  distance ← target places here two.2
  offset ← signed distance
  Ok (two.0, two.1, offset)

-- two registers and a number
unfoldable pub registers_number : List ℕ → Result (ℕ × ℕ × ℤ) AsmKind
registers_number text = do
  two ← two_registers_and text
  number ← number_of two.2
  Ok (two.0, two.1, number)

-- two registers, and one in brackets
unfoldable pub registers_address : List ℕ → Result (ℕ × ℕ × ℕ) AsmKind
registers_address text = do
  two ← two_registers_and text
  base ← address two.2
  Ok (two.0, two.1, base)

-- what the operation and its operands make, here in the text
unfoldable pub instruction : Places → ℕ → Operation → List ℕ → Result Instr AsmKind
instruction places here op.Lui text = do
  fields ← register_upper text
  Ok (Lui fields.0 fields.1)
instruction places here op.Auipc text = do
  fields ← register_upper text
  Ok (Auipc fields.0 fields.1)
instruction places here op.Jal text = do
  fields ← register_target places here text
  Ok (Jal fields.0 fields.1)
instruction places here op.Jalr text = do
  fields ← register_displaced text
  Ok (Jalr fields.0 fields.1 fields.2)
instruction places here (op.Branch o) text = do
  fields ← registers_target places here text
  Ok (Branch o fields.0 fields.1 fields.2)
instruction places here (op.Load o) text = do
  fields ← register_displaced text
  Ok (Load o fields.0 fields.1 fields.2)
instruction places here (op.Store o) text = do
  fields ← register_displaced text
  Ok (Store o fields.1 fields.0 fields.2)
instruction places here (op.Imm o) text = do
  fields ← registers_number text
  value ← signed fields.2
  Ok (Imm o fields.0 fields.1 value)
instruction places here (op.Shift o) text = do
  fields ← registers_number text
  amount ← unsigned fields.2
  Ok (Shift o fields.0 fields.1 amount)
instruction places here (op.Reg o) text = do
  fields ← three_registers text
  Ok (Reg o fields.0 fields.1 fields.2)
instruction places here (op.Lr aq rl) text = do
  first ← register_and text
  base ← address first.1
  Ok (Lr first.0 base aq rl)
instruction places here (op.Sc aq rl) text = do
  fields ← registers_address text
  Ok (Sc fields.0 fields.2 fields.1 aq rl)
instruction places here (op.Amo o aq rl) text = do
  fields ← registers_address text
  Ok (Amo o fields.0 fields.2 fields.1 aq rl)
instruction places here op.Fence text = do
  _ ← nothing text
  Ok (Fence 0x0FF0000F)
instruction places here op.Ecall text = do
  _ ← nothing text
  Ok Ecall
instruction places here op.Ebreak text = do
  _ ← nothing text
  Ok Ebreak
instruction places here op.Nop text = do
  _ ← nothing text
  Ok (Imm Addi 0 0 (pos 0))
instruction places here op.Mv text = do
  fields ← two_registers text
  Ok (Imm Addi fields.0 fields.1 (pos 0))
instruction places here op.Not text = do
  fields ← two_registers text
  Ok (Imm Xori fields.0 fields.1 (negsuc 0))
instruction places here op.Neg text = do
  fields ← two_registers text
  Ok (Reg Sub fields.0 0 fields.1)
instruction places here op.J text = do
  distance ← target places here text
  offset ← signed distance
  Ok (Jal 0 offset)
instruction places here op.Ret text = do
  _ ← nothing text
  Ok (Jalr 0 1 (pos 0))
instruction places here (op.BranchZero o) text = do
  fields ← register_target places here text
  Ok (Branch o fields.0 0 fields.1)

-- what a word of the program is: an instruction, or a number
pub data Code : Type 0 where
  Instruction : Instr → Code
  Data : ℕ → Code

-- the instruction, if each field is in its range
abbrev pub checked : Instr → Result Code AsmKind
checked instr = if is_in_range instr then Ok (Instruction instr) else Err Range

-- a number as it is
unfoldable pub data_of : List ℕ → Result Code AsmKind
data_of text = do
  number ← number_of text
  word ← word_of number
  Ok (Data word)

-- an instruction by its mnemonic, if it is known
unfoldable pub operation_code : Places → ℕ → List ℕ → List ℕ → Result Code AsmKind
operation_code places here name text = do
  operation ← ok_or (operation_of name) Mnemonic
  instr ← instruction places here operation text
  checked instr

-- what a mnemonic or `.word` and its operands stand for, here in the text
unfoldable pub code_of : Places → ℕ → List ℕ → Result Code AsmKind
code_of places here text =
    let name = before_first is_blank text in
    let operands = trim_start (after_first is_blank text) in
    if bytes_eq name (codes ".word") then data_of operands else operation_code places here name operands

-- the word stands for what the source says
abbrev pub Stands : ℕ → Code → Type 0
Stands word (Instruction instr) = Encodes word instr
Stands word (Data number) = word ≡ number

-- what a function returned is a word of what is read, or its fault
abbrev pub GivesWord : Result ℕ AsmKind → Result Code AsmKind → Type 0
GivesWord (Ok word) read = (code : Code) × (read ≡ Ok code) × Stands word code
GivesWord (Err kind) read = read ≡ Err kind
