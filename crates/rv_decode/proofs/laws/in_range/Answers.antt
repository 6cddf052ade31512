use Rattle.rv_decode.proofs.InRange.{in_range}
use Rattle.rv_decode.proofs.laws.in_range.Goals as goal

pub returns : goal.returns
returns c = in_range
