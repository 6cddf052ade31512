use Rattle.std.proofs.Common.{◌≡◌, ℕ, ◌^◌, ◌<◌, Option, Some, None, sym, ◌∙◌, arith}
use Rattle.std.specs.Option.{IfSome, IfNone}
use Rattle.std.proofs.lemmas.Option.{none-some}
use Rattle.slack_base.specs.declared.instructions.Instr.{Instr}
use Rattle.rv_decode.specs.Decoding.{instr_of}
use Rattle.rv_decode.specs.Encodes.{Encodes}
use Rattle.rv_decode.specs.Ranges.{IsInRange}
use Rattle.rv_decode.proofs.InRange.{in_range}
use Rattle.rv_decode.proofs.Found.{found}
use Rattle.rv_decode.proofs.Only.{only}
use Rattle.rv_decode.proofs.decoding.decode.Goals as goal

is_found : (word : ℕ) (r : Option Instr) → word < 2 ^ 32 → r ≡ instr_of word → IfSome r (λ i. Encodes word i × IsInRange i)
is_found word None below e = tt
is_found word (Some i) below e = let row = found word i (sym e) in (row, in_range word i below row)

is_none : (word : ℕ) (r : Option Instr) → r ≡ instr_of word → IfNone r ((i : Instr) → Encodes word i → ⊥)
is_none word None e = λ i row. none-some i (e ∙ only word i row)
is_none word (Some i) e = tt

pub returns-clause-found : goal.returns-clause-found
returns-clause-found c = is_found c.args.bits c.instruction.result (omega arith) c.instruction.ensures

pub returns-clause-none : goal.returns-clause-none
returns-clause-none c = is_none c.args.bits c.instruction.result c.instruction.ensures

pub returns-clause-only : goal.returns-clause-only
returns-clause-only c = λ i row. c.instruction.ensures ∙ only c.args.bits i row
