use Rattle.checkpoint.proofs.Becoming.{GetsMarked}
use Rattle.target_law.proofs.OneByOne.{Changed}
use Rattle.checkpoint.proofs.marks.mark_chans.Given as goal

-- the channels so far are marked
abbrev pub invariant-loop-chan : goal.invariant-loop-chan
invariant-loop-chan g l = Changed (GetsMarked g.T.Target.values.chan g.T.Target.values.saved_chan) l.chan-index l.fn.chans l.chans
