use Rattle.checkpoint.proofs.Becoming.{GetsKept}
use Rattle.target_law.proofs.OneByOne.{Changed}
use Rattle.checkpoint.proofs.marks.keep_cores.Given as goal

-- the marks of the cores so far have ended
abbrev pub invariant-loop-core : goal.invariant-loop-core
invariant-loop-core g l = Changed (GetsKept g.T.Target.values.core g.T.Target.values.saved_core) l.core-index l.fn.cores l.cores
