use Rattle.std.proofs.Common.{◌≡◌, ◌*◌, ◌∙◌, drop, sym, ap, subst, arith, rules}
use Rattle.std.specs.Prelude.{IfSome}
use Rattle.std.proofs.lemmas.Grind.{common_steps}
use Rattle.byteorder.specs.Endian.{little_number}
use Rattle.rv_decode.specs.Decoding.{instr_of}
use Rattle.rv_decode.specs.Ranges.{IsInRange}
use Rattle.timed_core.specs.Code.{AreDecoded}
use Rattle.timed_core.specs.Kept.{instr_in}
use Rattle.timed_core.proofs.Keeping.{in_ranges, one_more}
use Rattle.timed_core.proofs.code.decoded.decoded.Goals as goal

pub loop-n-preserved : goal.loop-n-preserved
loop-n-preserved c =
    let word : c.read_u32.result ≡ little_number 4 (drop (4 * c.loop-n.n) c.args.bytes.now) = grind (arith, common_steps) in
    let instr : instr_in c.of.result ≡ instr_of (little_number 4 (drop (4 * c.loop-n.n) c.args.bytes.now)) =
    c.of.ensures ∙ c.decode-instr.ensures.value ∙ ap instr_of word in
    let range : IfSome (instr_in c.of.result) IsInRange = subst (λ o. IfSome o IsInRange) (sym c.of.ensures) (in_ranges _ _ c.decode-instr.ensures.found) in
    record {
      count = search rules;
      instrs = subst (AreDecoded c.args.bytes.now) (sym c.in_ok-push.ensures.items)
          (one_more c.args.bytes.now c.loop-n.kept.items c.of.result c.loop-n.n c.loop-n.invariant.instrs c.loop-n.invariant.count (omega (arith, c.requires, c.loop-n-test.true)) instr range);
    }
