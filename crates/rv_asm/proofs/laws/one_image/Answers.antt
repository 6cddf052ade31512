use Rattle.rv_asm.proofs.OneImage.{same_image}
use Rattle.rv_asm.proofs.laws.one_image.Goals as goal

pub returns : goal.returns
returns c = same_image c.one_word.ensures
