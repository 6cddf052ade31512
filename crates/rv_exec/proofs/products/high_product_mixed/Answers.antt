use Rattle.std.proofs.Common.{SFits, w32, w64, rules, ◌∙◌, ◌*ℤ◌}
use Rattle.std.proofs.lemmas.Int.{to_z-of_z}
use Rattle.rv_exec.proofs.Readings.{signed_of-cast, product-fits, near-signed, near-unsigned}
use Rattle.rv_exec.proofs.products.high_product_mixed.Goals as goal

pub returns : goal.returns
returns c =
    let fa : SFits w32 c.cast_signed.result = search rules in
    let wa : SFits w64 c.from.result = search rules in
    let wb : SFits w64 c.from-2.result = search rules in
    let ra = signed_of-cast c.args.a c.ranges.a.fits in
    let ea = to_z-of_z w32 c.cast_signed.result fa in
    let da = to_z-of_z w64 c.from.result wa in
    let db = to_z-of_z w64 c.from-2.result wb in
    let fp = product-fits c.from.result c.from-2.result (near-signed _ _ (c.from.ensures ∙ ea) fa) (near-unsigned _ _ c.from-2.ensures c.ranges.b.fits) in
    let ep = to_z-of_z w64 (c.from.result *ℤ c.from-2.result) fp in
    cc
