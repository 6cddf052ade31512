use Rattle.std.proofs.Common.{take}
use Rattle.workload_gen.specs.Programs.{AreBytesOf}
use Rattle.workload_gen.proofs.programs.bytes_of.Given as goal

abbrev pub invariant-loop-instr : goal.invariant-loop-instr
invariant-loop-instr l = AreBytesOf (take l.instr-index l.instrs) l.bytes.items
