-- The code of an instruction, from what its parts are.
use Rattle.std.proofs.Common.{◌≡◌, ℕ, Bool, cond, List, Ok, Err, Result, ap, ◌∙◌}
use Rattle.std.specs.Option.{ok_or}
use Rattle.slack_base.specs.declared.faults.AsmKind.{AsmKind}
use Rattle.slack_base.specs.declared.faults.AsmKind.TheVariants.{Mnemonic, Range}
use Rattle.slack_base.specs.declared.instructions.Instr.{Instr}
use Rattle.rv_asm.specs.declared.operations.Operation.{Operation}
use Rattle.rv_asm.specs.Instructions.{instruction, operation_code, checked, Code, Instruction}
use Rattle.rv_asm.specs.Kinds.{◌>>=◌}
use Rattle.rv_asm.specs.Mnemonics.{operation_of}
use Rattle.rv_asm.specs.Operands.{Places}
use Rattle.rv_asm.specs.Ranges.{is_in_range}

pub code_checked : (places : Places) (here : ℕ) (name text : List ℕ) (operation : Operation) (instr : Instr) (test : Bool) → ok_or (operation_of name) Mnemonic ≡ Ok operation → instruction places here operation text ≡ Ok instr → is_in_range instr ≡ test → operation_code places here name text ≡ cond test (Ok (Instruction instr)) (Err Range)
unfolding operation_code
code_checked places here name text operation instr test known made ranged =
    let after : Operation → Result Code AsmKind = λ o. instruction places here o text >>= checked in
    ap (λ o. o >>= after) known ∙ ap (λ i. i >>= checked) made ∙ ap (λ b. cond b (Ok (Instruction instr)) (Err Range)) ranged
