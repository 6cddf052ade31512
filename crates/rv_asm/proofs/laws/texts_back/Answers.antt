use Rattle.rv_asm.proofs.TextsBack.{text_read, text_image}
use Rattle.rv_asm.proofs.laws.texts_back.Goals as goal

pub returns-clause-program : goal.returns-clause-program
returns-clause-program c = text_read

pub returns-clause-image : goal.returns-clause-image
returns-clause-image c = λ instr word base low row says. text_image instr word base low row (c.in_range.ensures word instr low row) says
