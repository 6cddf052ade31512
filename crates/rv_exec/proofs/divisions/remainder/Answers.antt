use Rattle.std.proofs.Common.{SFits, w32, rules}
use Rattle.std.proofs.lemmas.Int.{to_z-of_z}
use Rattle.rv_exec.proofs.Readings.{signed_of-cast, word_of-cast, remainder-nonzero}
use Rattle.rv_exec.proofs.divisions.remainder.Goals as goal

pub returns-else-b-eq0 : goal.returns-else-b-eq0
returns-else-b-eq0 c =
    let fa : SFits w32 c.cast_signed.result = search rules in
    let fb : SFits w32 c.cast_signed-else-b-eq0.result = search rules in
    let fr : SFits w32 c.wrapping_rem.result = search rules in
    let a = to_z-of_z w32 c.cast_signed.result fa in
    let b = to_z-of_z w32 c.cast_signed-else-b-eq0.result fb in
    let r = to_z-of_z w32 c.wrapping_rem.result fr in
    let ra = signed_of-cast c.args.a c.ranges.a.fits in
    let rb = signed_of-cast c.args.b c.ranges.b.fits in
    let w = word_of-cast c.wrapping_rem.result fr in
    let n = remainder-nonzero c.args.a c.args.b c.if-b-eq0.false in
    cc
