use Rattle.std.proofs.Common.{◌≡◌, ◌+◌, ◌-◌, ◌<◌, ◌≤◌, ◌^◌, length, vec_len}
use Rattle.io_edge.proofs.Progress.{Progress}
use Rattle.io_edge.proofs.whole.read_all.Given as goal

-- what was taken so far is what is kept, and it isn't too long
abbrev pub invariant-loop-n : goal.invariant-loop-n
invariant-loop-n g l =
    let s = g.S.Source in
    record {
      few : vec_len l.bytes ≤ l.most;
      buffer : length l.buffer ≡ 4096;
      told : Progress (s.left l.fn.source) (s.left l.source) l.bytes.items;
      counted : s.taken l.fn.source < 2 ^ 63 → s.taken l.source ≡ s.taken l.fn.source + vec_len l.bytes;
      faults : s.faults l.fn.source ≤ s.faults l.source;
    }

abbrev pub decreases-loop-n : goal.decreases-loop-n
decreases-loop-n g l = l.most + 1 - vec_len l.bytes
