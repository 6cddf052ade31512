use Rattle.std.proofs.Common.{arith}
use Rattle.rv_decode.proofs.OneWord.{one_word}
use Rattle.rv_decode.proofs.encoding.encode.Goals as goal

pub returns-clause-only : goal.returns-clause-only
returns-clause-only c = λ word below row. one_word word c.word.result c.args.instr.now below (omega arith) row c.word.ensures
