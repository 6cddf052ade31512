use Rattle.std.proofs.Common.{sym, arith}
use Rattle.std.proofs.lemmas.Bool.Decides.{nat_tests}
use Rattle.plain_text.proofs.Digits.{no_more, one_more, all_read}
use Rattle.plain_text.proofs.numerals.numeral_of.Goals as goal

pub returns-in_default : goal.returns-in_default
returns-in_default c =
    sym (no_more _ c.loop-byte.byte-index c.loop-byte.number _ (omega arith) c.loop-byte-test.true c.loop-byte.invariant.0 (rw c.in_default.is at c.with_digit.ensures))

pub loop-byte-preserved : goal.loop-byte-preserved
loop-byte-preserved c =
    let here = rw c.in-Some.is at c.with_digit.ensures in
    let more = one_more _ c.loop-byte.byte-index c.loop-byte.number c.in-Some.longer _ c.loop-byte-test.true c.loop-byte.invariant.0 c.loop-byte.invariant.1 (here.0.0, here.0.1, here.1) in
    (more.0, more.1, omega (arith, here.0.1, here.1))

pub returns : goal.returns
returns c =
    all_read _ c.loop-byte.byte-index c.loop-byte.number _ (grind (arith, nat_tests)) c.loop-byte-test.false c.loop-byte.invariant.2 c.loop-byte.invariant.0 c.loop-byte.invariant.1
