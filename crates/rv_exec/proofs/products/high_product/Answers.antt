use Rattle.std.proofs.Common.{SFits, w32, w64, rules, arith, ◌∙◌, ◌*ℤ◌, le_trans}
use Rattle.std.proofs.lemmas.Int.{to_z-of_z}
use Rattle.rv_exec.proofs.Readings.{signed_of-cast, product-fits, near-signed}
use Rattle.rv_exec.proofs.products.high_product.Goals as goal

pub returns : goal.returns
returns c =
    let fa : SFits w32 c.cast_signed.result = search rules in
    let wa : SFits w64 c.from.result = search rules in
    let wb : SFits w64 c.from-2.result = search rules in
    let ra = signed_of-cast c.args.a c.ranges.a.fits in
    let ea = to_z-of_z w32 c.cast_signed.result fa in
    let fb : SFits w32 c.cast_signed-2.result = search rules in
    let rb = signed_of-cast c.args.b c.ranges.b.fits in
    let eb = to_z-of_z w32 c.cast_signed-2.result fb in
    let da = to_z-of_z w64 c.from.result wa in
    let db = to_z-of_z w64 c.from-2.result wb in
    let fp = product-fits c.from.result c.from-2.result (near-signed _ _ (c.from.ensures ∙ ea) fa) (le_trans (near-signed _ _ (c.from-2.ensures ∙ eb) fb) (omega arith)) in
    let ep = to_z-of_z w64 (c.from.result *ℤ c.from-2.result) fp in
    cc
