use Rattle.checkpoint.proofs.Becoming.{GoesBack}
use Rattle.target_law.proofs.OneByOne.{Changed}
use Rattle.checkpoint.proofs.marks.undo_cores.Given as goal

-- the cores so far are back at their marks
abbrev pub invariant-loop-core : goal.invariant-loop-core
invariant-loop-core g l = Changed (GoesBack g.T.Target.values.core g.T.Target.values.saved_core) l.core-index l.fn.cores l.cores
