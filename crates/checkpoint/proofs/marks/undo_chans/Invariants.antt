use Rattle.checkpoint.proofs.Becoming.{GoesBack}
use Rattle.target_law.proofs.OneByOne.{Changed}
use Rattle.checkpoint.proofs.marks.undo_chans.Given as goal

-- the channels so far are back at their marks
abbrev pub invariant-loop-chan : goal.invariant-loop-chan
invariant-loop-chan g l = Changed (GoesBack g.T.Target.values.chan g.T.Target.values.saved_chan) l.chan-index l.fn.chans l.chans
