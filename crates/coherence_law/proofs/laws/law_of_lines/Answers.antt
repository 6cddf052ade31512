use Rattle.coherence_law.proofs.Flushes.{writes_back}
use Rattle.coherence_law.proofs.Parts.{fills, retries, invalidates, losses, writes, clocks}
use Rattle.coherence_law.proofs.Rows.{reads, owns_line}
use Rattle.coherence_law.proofs.Shown.{snoops, coherent}
use Rattle.coherence_law.proofs.laws.law_of_lines.Goals as goal

pub returns : goal.returns
returns c = record {
  coherent = coherent;
  fills = fills;
  retries = retries;
  invalidates = invalidates;
  losses = losses;
  writes = writes;
  writes_back = writes_back;
  snoops = snoops;
  reads = reads;
  owns = owns_line;
  clocks = clocks;
}
