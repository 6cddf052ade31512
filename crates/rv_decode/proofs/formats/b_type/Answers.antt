use Rattle.std.proofs.Common.{◌≡◌, ◌+◌, ◌*◌, ◌/◌, ◌%◌, ◌<◌, ◌^◌, arith}
use Rattle.std.proofs.lemmas.Int.{ints, to_z-of_z}
use Rattle.std.proofs.lemmas.Nat.{and_mask}
use Rattle.rv_decode.specs.Fields.{f7_of, rd_of}
use Rattle.rv_decode.proofs.Immediates.{b_value}
use Rattle.rv_decode.proofs.formats.b_type.Goals as goal

pub returns : goal.returns
returns c =
    let word = c.r_type.result in
    let bits = c.of-sign.result in
    let row = c.r_type.ensures in
    let small : bits.below < 2 ^ 12 = omega (arith, ints) in
    let high : f7_of word ≡ bits.sign * 64 + bits.below / 32 % 64 = omega (arith, and_mask (bits.below / 32) 6) in
    let low : rd_of word ≡ bits.below % 32 + bits.below / 2048 = omega (arith, and_mask bits.below 5) in
    let fits = c.ranges.offset in
    let value = simp to_z-of_z at c.of-sign.ensures.value in
    record {
      has_opcode = row.has_opcode;
      has_f3 = row.has_f3;
      has_rs1 = row.has_rs1;
      has_rs2 = row.has_rs2;
      has_immediate = b_value word bits.sign bits.below c.args.offset (omega arith) (omega arith) small c.requires.offset.1 value high low;
    }
