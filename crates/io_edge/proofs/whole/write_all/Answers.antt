use Rattle.std.proofs.Common.{rules}
use Rattle.io_edge.proofs.Written.{written_more}
use Rattle.io_edge.proofs.whole.write_all.Goals as goal

pub loop-done-preserved : goal.loop-done-preserved
loop-done-preserved g c = record {
  within = search rules;
  written = written_more _ _ _ _ _ _ c.loop-done.invariant.written c.in_ok-done.ensures.appended.2;
  untouched = λ none. search rules;
  faults = search rules;
}
