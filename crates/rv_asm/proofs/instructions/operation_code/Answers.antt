use Rattle.std.proofs.Common.{◌≡◌, true, false, sym, ap, ◌∙◌}
use Rattle.std.specs.Option.{ok_or}
use Rattle.slack_base.specs.declared.faults.AsmKind.TheVariants.{Mnemonic}
use Rattle.rv_asm.specs.Instructions.{Instruction}
use Rattle.rv_asm.specs.Ranges.{is_in_range}
use Rattle.rv_asm.specs.LabelTables.{places_in}
use Rattle.rv_asm.proofs.Coding.{code_checked}
use Rattle.rv_asm.proofs.InRange.{in_range, out_of_range}
use Rattle.rv_asm.proofs.instructions.operation_code.Goals as goal

pub returns-then-is_in_range : goal.returns-then-is_in_range
returns-then-is_in_range c =
    let test : is_in_range c.in_ok-instr.instr ≡ true = (in_range c.in_ok-instr.instr).1 (c.is_in_range.ensures.0 c.if-is_in_range.true) in
    let known = ap (λ o. ok_or o Mnemonic) (sym c.operation_of.ensures) ∙ sym c.ok_or.ensures.value ∙ c.in_ok-operation.was in
    let made = sym c.instruction.ensures ∙ c.in_ok-instr.was in
    (Instruction c.in_ok-instr.instr, code_checked (places_in c.args.labels.now) c.args.here c.args.name.now c.args.operands.now c.in_ok-operation.operation c.in_ok-instr.instr true known made test, c.encode.ensures.row)

pub returns-else-is_in_range : goal.returns-else-is_in_range
returns-else-is_in_range c =
    let test : is_in_range c.in_ok-instr.instr ≡ false =
    out_of_range c.in_ok-instr.instr (λ h. let other = c.is_in_range.ensures.1 h in let this = c.if-is_in_range.false in cc) in
    let known = ap (λ o. ok_or o Mnemonic) (sym c.operation_of.ensures) ∙ sym c.ok_or.ensures.value ∙ c.in_ok-operation.was in
    let made = sym c.instruction.ensures ∙ c.in_ok-instr.was in
    code_checked (places_in c.args.labels.now) c.args.here c.args.name.now c.args.operands.now c.in_ok-operation.operation c.in_ok-instr.instr false known made test
