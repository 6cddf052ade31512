use Rattle.std.proofs.Common.{◌*◌, ◌<◌, ◌^◌}
use Rattle.std.proofs.lemmas.Nat.{mul-lt}
use Rattle.rv_exec.proofs.Readings.{high_of-natural}
use Rattle.rv_exec.proofs.products.high_product_unsigned.Goals as goal

pub returns : goal.returns
returns c =
    let below : c.args.a * c.args.b < 2 ^ 64 = mul-lt c.args.a c.args.b (2 ^ 32) (2 ^ 32) c.ranges.a.fits c.ranges.b.fits in
    let h = high_of-natural (c.args.a * c.args.b) below in
    cc
