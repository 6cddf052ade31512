use Rattle.std.proofs.Common.{w64}
use Rattle.std.proofs.lemmas.Int.{to_z-of_z}
use Rattle.rv_exec.proofs.Readings.{high_of-cast}
use Rattle.rv_exec.proofs.products.high_word.Goals as goal

pub returns : goal.returns
returns c =
    let z = to_z-of_z w64 c.args.product c.ranges.product in
    let h = high_of-cast c.args.product c.ranges.product in
    cc
