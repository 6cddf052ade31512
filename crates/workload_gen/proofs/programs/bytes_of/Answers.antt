use Rattle.std.proofs.Common.{[], sym, subst, rules}
use Rattle.std.proofs.lemmas.List.{take_all}
use Rattle.workload_gen.specs.Programs.{AreBytesOf}
use Rattle.workload_gen.proofs.Coding.{bytes_start, bytes_more}
use Rattle.workload_gen.proofs.programs.bytes_of.Goals as goal

pub loop-instr-init : goal.loop-instr-init
loop-instr-init c = subst (AreBytesOf []) (sym c.new-bytes.ensures.items) bytes_start

pub loop-instr-preserved : goal.loop-instr-preserved
loop-instr-preserved c =
    subst (AreBytesOf _) (sym c.in_ok-extend_from_slice.ensures.items)
    (bytes_more c.args.instrs.now _ _ c.loop-instr.instr-index c.encode.result _ c.loop-instr-test.true c.loop-instr.invariant (search rules, c.encode.ensures.row) c.to_le_bytes.ensures)

pub returns : goal.returns
returns c =
    subst (λ instrs. AreBytesOf instrs c.loop-instr.bytes.items) (take_all c.loop-instr.instr-index c.args.instrs.now c.loop-instr-test.false) c.loop-instr.invariant
