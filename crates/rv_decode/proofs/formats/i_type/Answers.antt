use Rattle.std.proofs.Common.{◌≡◌, ◌+◌, ◌*◌, ◌/◌, ◌%◌, ◌<◌, ◌^◌, arith}
use Rattle.std.proofs.lemmas.Int.{ints, to_z-of_z}
use Rattle.std.proofs.lemmas.Nat.{and_mask}
use Rattle.rv_decode.specs.Fields.{f7_of, rs2_of}
use Rattle.rv_decode.proofs.Immediates.{i_value}
use Rattle.rv_decode.proofs.formats.i_type.Goals as goal

pub returns : goal.returns
returns c =
    let word = c.r_type.result in
    let bits = c.of-sign.result in
    let row = c.r_type.ensures in
    let small : bits.below < 2 ^ 11 = omega (arith, ints) in
    let high : f7_of word ≡ bits.sign * 64 + bits.below / 32 = omega (arith) in
    let low : rs2_of word ≡ bits.below % 32 = omega (arith, and_mask bits.below 5) in
    let fits = c.ranges.immediate in
    let value = simp to_z-of_z at c.of-sign.ensures.value in
    record {
      has_opcode = row.has_opcode;
      has_f3 = row.has_f3;
      has_rd = row.has_rd;
      has_rs1 = row.has_rs1;
      has_immediate = i_value word bits.sign bits.below c.args.immediate (omega arith) (omega arith) small value high low;
    }
