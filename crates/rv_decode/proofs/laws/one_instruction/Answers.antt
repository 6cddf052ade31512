use Rattle.std.proofs.Common.{sym, ◌∙◌}
use Rattle.std.proofs.lemmas.Option.{same_Some}
use Rattle.rv_decode.proofs.Only.{only}
use Rattle.rv_decode.proofs.laws.one_instruction.Goals as goal

pub returns : goal.returns
returns c = λ word i j row other. same_Some i j (sym (only word i row) ∙ only word j other)
