use Rattle.std.proofs.Common.{◌≡◌, drop}
use Rattle.lockstep_model.specs.Views.{values_of}
use Rattle.stat_report.specs.Dump.{memory_words}
use Rattle.stat_report.proofs.dumps.memory_words.Given as goal

-- none so far gives words
abbrev pub invariant-loop-chan : goal.invariant-loop-chan
invariant-loop-chan l = memory_words l.line (values_of (drop l.chan-index l.chans)) ≡ memory_words l.line (values_of l.chans)
