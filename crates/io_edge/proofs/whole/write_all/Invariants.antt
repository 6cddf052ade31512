use Rattle.std.proofs.Common.{◌≡◌, ◌-◌, ◌≤◌, [], take, length}
use Rattle.io_edge.specs.Streams.{with_after}
use Rattle.io_edge.proofs.whole.write_all.Given as goal

-- a front of the text is written
abbrev pub invariant-loop-done : goal.invariant-loop-done
invariant-loop-done g l =
    let s = g.W.Sink in
    record {
      within : l.done ≤ length l.bytes;
      written : s.written l.sink ≡ with_after (s.written l.fn.sink) (take l.done l.bytes);
      untouched : l.bytes ≡ [] → l.sink ≡ l.fn.sink;
      faults : s.faults l.fn.sink ≤ s.faults l.sink;
    }

abbrev pub decreases-loop-done : goal.decreases-loop-done
decreases-loop-done g l = length l.bytes - l.done
