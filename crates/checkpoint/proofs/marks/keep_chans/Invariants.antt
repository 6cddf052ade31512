use Rattle.checkpoint.proofs.Becoming.{GetsKept}
use Rattle.target_law.proofs.OneByOne.{Changed}
use Rattle.checkpoint.proofs.marks.keep_chans.Given as goal

-- the marks of the channels so far have ended
abbrev pub invariant-loop-chan : goal.invariant-loop-chan
invariant-loop-chan g l = Changed (GetsKept g.T.Target.values.chan g.T.Target.values.saved_chan) l.chan-index l.fn.chans l.chans
