use Rattle.std.proofs.Common.{◌≡◌, drop}
use Rattle.lockstep_model.specs.Views.{cores_of}
use Rattle.stat_report.specs.Dump.{written_words}
use Rattle.stat_report.proofs.dumps.written_words.Given as goal

-- none so far gives words
abbrev pub invariant-loop-core : goal.invariant-loop-core
invariant-loop-core l = written_words l.line (cores_of (drop l.core-index l.cores)) ≡ written_words l.line (cores_of l.cores)
