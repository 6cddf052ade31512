use Rattle.checkpoint.proofs.Becoming.{GetsMarked}
use Rattle.target_law.proofs.OneByOne.{Changed}
use Rattle.checkpoint.proofs.marks.mark_cores.Given as goal

-- the cores so far are marked
abbrev pub invariant-loop-core : goal.invariant-loop-core
invariant-loop-core g l = Changed (GetsMarked g.T.Target.values.core g.T.Target.values.saved_core) l.core-index l.fn.cores l.cores
