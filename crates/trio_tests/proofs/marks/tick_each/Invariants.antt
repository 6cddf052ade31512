use Rattle.target_law.specs.Trio.{trio_values}
use Rattle.checkpoint.proofs.Becoming.{HasSameMark}
use Rattle.target_law.proofs.OneByOne.{Changed}
use Rattle.trio_tests.proofs.marks.tick_each.Given as goal

-- the marks of the cores so far are as they were
abbrev pub invariant-loop-core : goal.invariant-loop-core
invariant-loop-core l = Changed (HasSameMark trio_values.saved_core) l.core-index l.fn.cores l.cores
