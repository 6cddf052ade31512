use Rattle.std.proofs.Common.{◌+◌, ◌-◌, ◌/◌, ◌^◌, arith}
use Rattle.std.proofs.lemmas.Nat.{one_shl, and_mask}
use Rattle.rv_decode.proofs.fields.field.Goals as goal

pub returns : goal.returns
returns c =
    let width = c.args.high + 1 - c.args.low in
    rw (one_shl width 32 (omega arith)) (and_mask (c.args.bits / 2 ^ c.args.low) width)
