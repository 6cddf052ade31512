use Rattle.std.proofs.Common.{w64, arith}
use Rattle.std.proofs.lemmas.Nat.Bits.{bit_at-trailing_zeros}
use Rattle.stamp_queue.proofs.inbox.occupied.lowest_bit.Goals as goal

pub returns : goal.returns
returns c = bit_at-trailing_zeros w64 c.args.bits (omega (arith, c.requires)) c.ranges.bits.fits
