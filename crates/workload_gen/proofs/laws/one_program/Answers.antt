use Rattle.workload_gen.proofs.OneImage.{same_image}
use Rattle.workload_gen.proofs.laws.one_program.Goals as goal

pub returns : goal.returns
returns c = same_image c.one_word.ensures
