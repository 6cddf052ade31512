use Rattle.slack_base.specs.declared.instructions.Instr.TheVariants.{Branch}
use Rattle.word_tests.proofs.decoded.branch_offset.Goals as goal

pub returns-in_err-offset-clause-branch : goal.returns-in_err-offset-clause-branch
returns-in_err-offset-clause-branch c = λ op rs1 rs2 offset row. absurd (c.in_err-offset.ensures.none (Branch op rs1 rs2 offset) row)
